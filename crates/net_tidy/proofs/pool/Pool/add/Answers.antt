use Rattle.std.proofs.Common.{sym, ap, ◌∙◌}
use Rattle.net_tidy.specs.Forms.{form_of}
use Rattle.net_tidy.proofs.Pooled.{built_never, makes_by_form}
use Rattle.net_tidy.proofs.pool.Pool.add.Goals as goal

pub returns-in-None-clause-built : goal.returns-in-None-clause-built
returns-in-None-clause-built c =
    built_never c.push_other.result c.args.self.now c.push_other.new.self c.args.kind c.args.pins c.requires
    (ap (form_of c.args.kind) (sym c.as_slice.ensures) ∙ (sym c.form_of.ensures ∙ c.in-None.is))

pub returns-in-Some-clause-makes : goal.returns-in-Some-clause-makes
returns-in-Some-clause-makes c =
    makes_by_form c.add_form.result c.args.self.now c.add_form.new.self c.args.kind c.args.pins c.in-Some.form
    (ap (form_of c.args.kind) (sym c.as_slice.ensures) ∙ (sym c.form_of.ensures ∙ c.in-Some.is))
    c.add_form.ensures.makes
