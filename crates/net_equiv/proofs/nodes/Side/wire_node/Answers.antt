use Rattle.std.proofs.lemmas.Result.{IfOk-weaker}
use Rattle.std.proofs.Common.{length}
use Rattle.net_equiv.specs.inner.Standing.{view_of}
use Rattle.net_equiv.proofs.Telling.{const_tells, input_tells, reg_tells, reset_tells}
use Rattle.net_equiv.proofs.nodes.Side.wire_node.Goals as goal

pub returns-in-Const-clause-tells : goal.returns-in-Const-clause-tells
returns-in-Const-clause-tells c =
    const_tells c.args.store.now (view_of c.args.self.now) c.args.wire c.in-Const.bit c.in-Const.is

pub returns-in-Reset-clause-tells : goal.returns-in-Reset-clause-tells
returns-in-Reset-clause-tells c = reset_tells c.args.store.now (view_of c.args.self.now) c.args.wire c.in-Reset.is

pub returns-in-Input-clause-tells : goal.returns-in-Input-clause-tells
returns-in-Input-clause-tells c =
    IfOk-weaker c.var.result _ _
    (λ n f. input_tells c.var.new.self (view_of c.args.self.now) (length c.args.known.now) c.args.wire c.in-Input.n
    c.position.result n c.in-Input.is c.requires.ready.there c.position.ensures f)
    c.var.ensures.stands

pub returns-in-Reg-clause-tells : goal.returns-in-Reg-clause-tells
returns-in-Reg-clause-tells c =
    IfOk-weaker c.var-in-Reg.result _ _
    (λ n f. reg_tells c.var-in-Reg.new.self (view_of c.args.self.now) (length c.args.known.now) c.args.wire c.in-Reg.r
    c.position-in-Reg.result n c.in-Reg.is c.requires.ready.there c.position-in-Reg.ensures f)
    c.var-in-Reg.ensures.stands
