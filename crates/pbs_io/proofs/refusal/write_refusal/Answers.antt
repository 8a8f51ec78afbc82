use Rattle.std.proofs.Common.{subst, ◌∙◌}
use Rattle.pbs_io.specs.Outside.{Writes}
use Rattle.pbs_io.proofs.RefusalLemmas.{line_of}
use Rattle.pbs_io.proofs.refusal.write_refusal.Goals as goal

pub returns : goal.returns
returns g c =
    subst (λ text. Writes (g.K.Sink.state c.args.sink.now) (g.K.Sink.state c.write_pieces.new.sink) text
    c.write_pieces.result)
    (line_of c.args.refusal.now _ _ _ _ c.word_of.ensures (c.as_bytes.ensures.value
    ∙ c.format.ensures.text) (c.as_bytes-2.ensures.value ∙ c.format-2.ensures.text) (c.as_bytes-3.ensures.value
    ∙ c.format-3.ensures.text))
    c.write_pieces.ensures
