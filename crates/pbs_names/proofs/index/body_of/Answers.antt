use Rattle.std.proofs.Common.{Some, None, sym, ap, ◌∙◌}
use Rattle.std.specs.Option.{option_map}
use Rattle.pbs_ast.specs.declared.syntax.Prod.{Prod}
use Rattle.pbs_names.specs.Naming.{prod_names}
use Rattle.pbs_names.proofs.NameLemmas.{number_is, body_found, body_absent}
use Rattle.pbs_names.proofs.index.body_of.Goals as goal

pub returns-in-Some-get : goal.returns-in-Some-get
returns-in-Some-get c =
    let prods = c.args.prods.now in let name = c.args.name.now in
    ap (option_map (λ (p : Prod). p.body)) c.in-Some-get.ensures.value
    ∙ sym (body_found prods name c.in-Some.number (number_is (prod_names prods) c.args.index.now name c.find.result
    (Some c.in-Some.number) c.requires c.find.ensures c.in-Some.is))

pub returns-in-None-get : goal.returns-in-None-get
returns-in-None-get c =
    let prods = c.args.prods.now in let name = c.args.name.now in
    ap (option_map (λ (p : Prod). p.body)) c.in-None-get.ensures.value
    ∙ sym (body_found prods name c.in-Some.number (number_is (prod_names prods) c.args.index.now name c.find.result
    (Some c.in-Some.number) c.requires c.find.ensures c.in-Some.is))

pub returns-in-None : goal.returns-in-None
returns-in-None c =
    let prods = c.args.prods.now in let name = c.args.name.now in
    sym (body_absent prods name (number_is (prod_names prods) c.args.index.now name c.find.result None c.requires
    c.find.ensures c.in-None.is))
