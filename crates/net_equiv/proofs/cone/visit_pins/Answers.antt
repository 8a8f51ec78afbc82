use Rattle.std.proofs.Common.{◌∙◌}
use Rattle.net_equiv.specs.inner.Walking.{name_at}
use Rattle.net_equiv.proofs.Visiting.{adds_pin, all_visited, lists_then, marks_pin, visited_more}
use Rattle.net_equiv.proofs.cone.visit_pins.Goals as goal

pub returns-in_err-visit-clause-marks : goal.returns-in_err-visit-clause-marks
returns-in_err-visit-clause-marks c =
    marks_pin c.args.pins.now c.loop-pin.pin-index c.loop-pin-test.true c.args.cone.now.marks.items c.loop-pin.cone.marks.items
    c.visit.new.cone.marks.items c.loop-pin.invariant.marks c.visit.ensures.marks

pub returns-in_err-visit-clause-adds : goal.returns-in_err-visit-clause-adds
returns-in_err-visit-clause-adds c =
    adds_pin c.args.pins.now c.loop-pin.pin-index c.loop-pin-test.true (name_at c.args.names.now)
    c.args.vars.now.items c.loop-pin.vars.items c.visit.new.vars.items c.loop-pin.invariant.adds c.visit.ensures.adds

pub loop-pin-preserved : goal.loop-pin-preserved
loop-pin-preserved c = record {
  marks = marks_pin c.args.pins.now c.loop-pin.pin-index c.loop-pin-test.true c.args.cone.now.marks.items c.loop-pin.cone.marks.items
      c.visit.new.cone.marks.items c.loop-pin.invariant.marks c.visit.ensures.marks;
  adds = adds_pin c.args.pins.now c.loop-pin.pin-index c.loop-pin-test.true (name_at c.args.names.now)
      c.args.vars.now.items c.loop-pin.vars.items c.visit.new.vars.items c.loop-pin.invariant.adds c.visit.ensures.adds;
  visited = visited_more c.args.pins.now c.loop-pin.pin-index c.loop-pin-test.true (name_at c.args.names.now)
      c.loop-pin.cone.marks.items c.visit.new.cone.marks.items c.loop-pin.vars.items c.visit.new.vars.items c.loop-pin.invariant.visited
      c.visit.ensures.marks c.visit.ensures.adds c.in_ok-visit.ensures.visited;
  lists = lists_then c.args.cone.now.marks.items c.loop-pin.cone.marks.items c.visit.new.cone.marks.items
      c.args.cone.now.listed.items c.loop-pin.cone.listed.items c.visit.new.cone.listed.items
      c.loop-pin.invariant.lists c.in_ok-visit.ensures.lists;
  long = c.visit.ensures.long ∙ c.loop-pin.invariant.long;
  known = c.visit.ensures.known ∙ c.loop-pin.invariant.known;
  few = λ h. c.in_ok-visit.ensures.few (c.loop-pin.invariant.few h);
}

pub returns-clause-visited : goal.returns-clause-visited
returns-clause-visited c =
    all_visited (name_at c.args.names.now) c.loop-pin.cone.marks.items c.loop-pin.vars.items c.args.pins.now c.loop-pin.pin-index
    c.loop-pin-test.false c.loop-pin.invariant.visited
