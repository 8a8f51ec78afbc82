use Rattle.std.proofs.Common.{◌≡◌, ◌≤◌, ◌<◌, Some, true, length, refl, ◌∙◌, arith}
use Rattle.std.specs.Prelude.{slice_get}
use Rattle.std.proofs.lemmas.Option.{slice_get_read}
use Rattle.net_eval.proofs.Assigning.{all_there_more}
use Rattle.net_equiv.specs.Cones.{IsLeafOf}
use Rattle.net_equiv.specs.inner.Walking.{is_marked, name_at, IsPin}
use Rattle.net_equiv.proofs.Visiting.{adds_begin, adds_step, done_begin, done_closed, done_step, inside_begin, inside_step, listed_begin, marked_within, visited_kept}
use Rattle.net_equiv.proofs.cone.walk.Goals as goal

pub returns-in_err-visit-clause-adds : goal.returns-in_err-visit-clause-adds
returns-in_err-visit-clause-adds c =
    adds_begin c.args.gates.now c.args.root (name_at c.args.names.now) c.args.vars.now.items c.visit.new.vars.items
    c.visit.ensures.adds

pub loop-i-init : goal.loop-i-init
loop-i-init c = record {
  inside = inside_begin c.args.gates.now c.args.root c.args.cone.now.marks.items c.visit.new.cone.marks.items
      c.requires.clear.none c.visit.ensures.marks;
  listed = c.in_ok-visit.ensures.lists.listed
      (listed_begin c.args.cone.now.marks.items c.args.cone.now.listed.items c.requires.clear.empty
      c.requires.clear.none);
  adds = adds_begin c.args.gates.now c.args.root (name_at c.args.names.now) c.args.vars.now.items
      c.visit.new.vars.items c.visit.ensures.adds;
  root_visited = c.in_ok-visit.ensures.visited;
  done = done_begin c.args.gates.now (name_at c.args.names.now) c.visit.new.cone.listed.items
      c.visit.new.cone.marks.items c.visit.new.vars.items;
  few = c.in_ok-visit.ensures.few;
  long = c.visit.ensures.long ∙ c.requires.clear.marks_long;
  known = c.visit.ensures.known;
}

pub returns-then-i-len-clause-closed : goal.returns-then-i-len-clause-closed
returns-then-i-len-clause-closed c =
    done_closed c.args.gates.now (name_at c.args.names.now) c.args.root c.loop-i.cone.marks.items
    c.loop-i.cone.listed.items c.loop-i.vars.items c.loop-i.i
    (let t = c.if-i-len.true in let e = c.len.ensures in omega arith)
    c.loop-i.invariant.long c.loop-i.invariant.listed c.loop-i.invariant.root_visited c.loop-i.invariant.done

pub returns-clause-closed : goal.returns-clause-closed
returns-clause-closed c =
    done_closed c.args.gates.now (name_at c.args.names.now) c.args.root c.loop-i.cone.marks.items
    c.loop-i.cone.listed.items c.loop-i.vars.items c.loop-i.i
    (let t = c.loop-i-test.false in let e = c.loop-i.cone.listed.small in omega arith)
    c.loop-i.invariant.long c.loop-i.invariant.listed c.loop-i.invariant.root_visited c.loop-i.invariant.done

pub bounds-gates-n : goal.bounds-gates-n
bounds-gates-n c =
    let gates = c.args.gates.now in
    let n = c.index.result.now in
    let m = c.loop-i.cone.marks.items in
    let here : slice_get c.loop-i.cone.listed.items c.loop-i.i ≡ Some n =
    slice_get_read c.loop-i.cone.listed.items _ c.loop-i.i n refl
    (let t = c.if-i-len.false in let e = c.len.ensures in omega arith) c.index.ensures in
    let so : is_marked m n ≡ true = c.loop-i.invariant.listed.back c.loop-i.i n here in
    let within : n < length gates =
    let l = c.loop-i.invariant.long in let k = marked_within m n so in omega arith in
    within

pub visit_pins-requires : goal.visit_pins-requires
visit_pins-requires c =
    let gates = c.args.gates.now in
    let n = c.index.result.now in
    let m = c.loop-i.cone.marks.items in
    let here : slice_get c.loop-i.cone.listed.items c.loop-i.i ≡ Some n =
    slice_get_read c.loop-i.cone.listed.items _ c.loop-i.i n refl
    (let t = c.if-i-len.false in let e = c.len.ensures in omega arith) c.index.ensures in
    let so : is_marked m n ≡ true = c.loop-i.invariant.listed.back c.loop-i.i n here in
    let within : n < length gates =
    let l = c.loop-i.invariant.long in let k = marked_within m n so in omega arith in
    let g = c.index-gates-n.result in
    let at = slice_get_read gates _ n g refl within c.index-gates-n.is in
    let pins_is : c.as_slice.result.now ≡ g.pins = cc in
    let more : n ≤ length m = let l = c.loop-i.invariant.long in omega arith in
    record {
      there = rw pins_is
          (all_there_more 64 (length c.args.names.now) n (length m) g.pins more (c.requires.ordered.earlier n g at));
    }

pub returns-in_err-visit_pins-clause-adds : goal.returns-in_err-visit_pins-clause-adds
returns-in_err-visit_pins-clause-adds c =
    let gates = c.args.gates.now in
    let root = c.args.root in
    let name_of = name_at c.args.names.now in
    let n = c.index.result.now in
    let m = c.loop-i.cone.marks.items in
    let m' = c.visit_pins.new.cone.marks.items in
    let v = c.loop-i.vars.items in
    let v' = c.visit_pins.new.vars.items in
    let g = c.index-gates-n.result in
    let here : slice_get c.loop-i.cone.listed.items c.loop-i.i ≡ Some n =
    slice_get_read c.loop-i.cone.listed.items _ c.loop-i.i n refl
    (let t = c.if-i-len.false in let e = c.len.ensures in omega arith) c.index.ensures in
    let so : is_marked m n ≡ true = c.loop-i.invariant.listed.back c.loop-i.i n here in
    let within : n < length gates =
    let l = c.loop-i.invariant.long in let k = marked_within m n so in omega arith in
    let at = slice_get_read gates _ n g refl within c.index-gates-n.is in
    let pins_is : c.as_slice.result.now ≡ g.pins = cc in
    adds_step gates root name_of m m' v v' n g at (rw pins_is at c.visit_pins.ensures.marks)
    (rw pins_is at c.visit_pins.ensures.adds) so c.loop-i.invariant.inside c.args.vars.now.items
    c.loop-i.invariant.adds

pub loop-i-preserved : goal.loop-i-preserved
loop-i-preserved c =
    let gates = c.args.gates.now in
    let root = c.args.root in
    let name_of = name_at c.args.names.now in
    let n = c.index.result.now in
    let m = c.loop-i.cone.marks.items in
    let m' = c.visit_pins.new.cone.marks.items in
    let v = c.loop-i.vars.items in
    let v' = c.visit_pins.new.vars.items in
    let g = c.index-gates-n.result in
    let here : slice_get c.loop-i.cone.listed.items c.loop-i.i ≡ Some n =
    slice_get_read c.loop-i.cone.listed.items _ c.loop-i.i n refl
    (let t = c.if-i-len.false in let e = c.len.ensures in omega arith) c.index.ensures in
    let so : is_marked m n ≡ true = c.loop-i.invariant.listed.back c.loop-i.i n here in
    let within : n < length gates =
    let l = c.loop-i.invariant.long in let k = marked_within m n so in omega arith in
    let at = slice_get_read gates _ n g refl within c.index-gates-n.is in
    let pins_is : c.as_slice.result.now ≡ g.pins = cc in
    let marks = rw pins_is at c.visit_pins.ensures.marks in
    let adds = rw pins_is at c.visit_pins.ensures.adds in
    record {
      inside = inside_step gates root name_of m m' v v' n g at marks adds so c.loop-i.invariant.inside;
      listed = c.in_ok-visit_pins.ensures.lists.listed c.loop-i.invariant.listed;
      adds = adds_step gates root name_of m m' v v' n g at marks adds so c.loop-i.invariant.inside
          c.args.vars.now.items c.loop-i.invariant.adds;
      root_visited = visited_kept name_of (IsPin g.pins) (IsLeafOf name_of (IsPin g.pins)) m m' v v' root marks adds
          c.loop-i.invariant.root_visited;
      done = done_step gates root name_of m m' v v' n g at marks adds c.loop-i.i c.loop-i.cone.listed.items
          c.visit_pins.new.cone.listed.items here c.in_ok-visit_pins.ensures.lists
          (rw pins_is at c.in_ok-visit_pins.ensures.visited) c.loop-i.invariant.done;
      few = λ h. c.in_ok-visit_pins.ensures.few (c.loop-i.invariant.few h);
      long = c.visit_pins.ensures.long ∙ c.loop-i.invariant.long;
      known = c.visit_pins.ensures.known ∙ c.loop-i.invariant.known;
    }
