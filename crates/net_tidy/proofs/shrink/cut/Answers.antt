use Rattle.net_tidy.proofs.shrink.cut.Goals as goal

pub returns : goal.returns
returns c =
    let swept = rw (c.as_slice-4.ensures, c.deref.ensures.value) at c.in_ok-kept.ensures in
    let closed = rw c.as_slice.ensures at c.in_ok-marks.ensures.closed in
    let reached =
    rw (c.as_slice.ensures, c.as_slice-2.ensures, c.as_slice-3.ensures) at c.in_ok-marks.ensures.reached in
    let shown = rw c.as_slice-2.ensures at c.in_ok-marks.ensures.shown in
    let next = rw c.as_slice-3.ensures at c.in_ok-marks.ensures.next in
    record {
      marks = c.in_ok-marks.marks.items;
      places = c.in_ok-kept.field-0.stands;
      sweeps = swept;
      closed = closed;
      reached = reached;
      shown_marked = shown;
      next_marked = next;
      shown_is = c.in_ok-shown.ensures;
      next_is = c.in_ok-next.ensures;
    }
