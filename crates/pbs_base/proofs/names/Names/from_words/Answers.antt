use Rattle.std.proofs.Common.{Ok, Some, sym, ap, ◌∙◌}
use Rattle.std.proofs.lemmas.Option.{slice_get-get_or}
use Rattle.pbs_base.proofs.WordLemmas.{one_name_more}
use Rattle.pbs_base.proofs.names.Names.from_words.Goals as goal

pub loop-word-preserved : goal.loop-word-preserved
loop-word-preserved c =
    let words = c.args.words.now in
    let n = c.loop-word.word-index in
    one_name_more words c.loop-word.names c.add.new.self n c.in_ok-new.field-0 c.in_ok-add.field-0 c.requires
    (slice_get-get_or words n c.word-item.result c.loop-word-test.true
    ∙ ap Some (sym (c.in_ok-new.ensures ∙ (c.bytes.ensures ∙ c.word-item.is))))
    c.loop-word.invariant (λ e. c.in_ok-add.ensures.there (ap Ok e)) (λ e. c.in_ok-add.ensures.added (ap Ok e))
