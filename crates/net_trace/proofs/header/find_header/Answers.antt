use Rattle.std.proofs.Common.{◌≡◌, ◌≤◌, ◌++◌, length, take, false, nat_eq, sym, subst, arith}
use Rattle.std.proofs.lemmas.List.{length-take}
use Rattle.std.proofs.lemmas.Bool.Decides.{nat_tests}
use Rattle.std.proofs.lemmas.Grind.{common_steps}
use Rattle.std.specs.Io.KnownBytes.{prepend_known}
use Rattle.trace_text.specs.States.{ReadsHead}
use Rattle.trace_text.specs.declared.answers.Head.TheVariants as head
use Rattle.net_trace.proofs.StandLemmas.{read_only, reads_twice, taken_more}
use Rattle.net_trace.proofs.HeadLemmas.{head_room, header_ends, header_more, header_refused, little_behind}
use Rattle.net_trace.proofs.HeadLemmas.{none_follows, piece_short}
use Rattle.net_trace.proofs.header.find_header.Goals as goal

pub returns-in_default-header-clause-heads : goal.returns-in_default-header-clause-heads
returns-in_default-header-clause-heads g c =
    let inv = c.loop-n.invariant in
    let piece = take c.in-Ok.n c.read_front.new.piece in
    let long : length c.read_front.new.piece ≡ 65536 = grind (arith, common_steps) in
    let short = piece_short c.in-Ok.n c.read_front.new.piece long in (
      inv.done ++ piece,
      record {
        is = taken_more _ _ _ inv.done piece inv.taken c.in-Ok.ensures.reads.moved;
        few = head_room c.args.reader.now.ports c.loop-n.reader inv.done c.read_front.new.piece c.in-Ok.n
            c.bytes_used-room.result inv.read (c.bytes_used-room.ensures.header inv.read.phase)
            c.bytes_used-room.ensures.value c.in-Ok.ensures.at_most;
      },
      λ line behind whole none.
          let few = little_behind inv.done piece line behind inv.read.open_line whole in omega (arith, few, short),
    )

pub loop-n-preserved : goal.loop-n-preserved
loop-n-preserved g c =
    let inv = c.loop-n.invariant in
    let piece = take c.in-Ok.n c.read_front.new.piece in
    record {
      long = grind (arith, common_steps);
      reads = reads_twice _ _ _ inv.reads (read_only _ _ c.read_front.new.piece _ c.in-Ok.ensures.reads);
      done = inv.done ++ piece;
      read = header_more c.args.reader.now.ports c.loop-n.reader c.header.new.self inv.done piece _
          c.in-Ok-header.used inv.read
          (subst (λ h. ReadsHead c.loop-n.reader c.header.new.self piece (nat_eq c.in-Ok.n 0)
          c.in-Ok-header.used h) c.in-More.is
          c.in-Ok-header.ensures);
      taken = taken_more _ _ _ inv.done piece inv.taken c.in-Ok.ensures.reads.moved;
    }

pub returns-in-Ready-2-clause-heads : goal.returns-in-Ready-2-clause-heads
returns-in-Ready-2-clause-heads g c =
    let inv = c.loop-n.invariant in
    let piece = take c.in-Ok.n c.read_front.new.piece in
    let reads : ReadsHead c.loop-n.reader c.header.new.self piece (nat_eq c.in-Ok.n 0) c.in-Ok-header.used head.Ready =
    subst (λ h. ReadsHead c.loop-n.reader c.header.new.self piece (nat_eq c.in-Ok.n 0) c.in-Ok-header.used h)
    c.in-Ready-2.is
    c.in-Ok-header.ensures in
    let goes_on : nat_eq c.in-Ok.n 0 ≡ false = grind (arith, nat_tests) in
    let ends = header_ends c.args.reader.now.ports c.loop-n.reader c.header.new.self inv.done piece _
    c.in-Ok-header.used inv.read reads goes_on in
    let within = reads.within in
    let part = length-take c.in-Ok.n c.read_front.new.piece in
    let bound = c.in-Ok.ensures.bound in
    let taken : ((g.S.Shelf.state c.args.shelf.now).slots 1).left
    ≡ prepend_known (inv.done ++ piece) ((g.S.Shelf.state c.read_front.new.shelf).slots 1).left =
    taken_more _ _ _ inv.done piece inv.taken c.in-Ok.ensures.reads.moved in
    let few = head_room c.args.reader.now.ports c.loop-n.reader inv.done c.read_front.new.piece c.in-Ok.n
    c.bytes_used-room.result inv.read (c.bytes_used-room.ensures.header inv.read.phase)
    c.bytes_used-room.ensures.value c.in-Ok.ensures.at_most in (
      omega (arith, within, part),
      omega (arith, bound),
      reads.phase,
      ends.done,
      ends.read,
      record {
        is = subst (λ w. ((g.S.Shelf.state c.args.shelf.now).slots 1).left
            ≡ prepend_known w ((g.S.Shelf.state c.read_front.new.shelf).slots 1).left) (sym ends.whole_is) taken;
        few = subst (λ w. length w ≤ 67108865) (sym ends.whole_is) few;
      },
    )

pub returns-in-Refused-clause-heads : goal.returns-in-Refused-clause-heads
returns-in-Refused-clause-heads g c =
    let inv = c.loop-n.invariant in
    let piece = take c.in-Ok.n c.read_front.new.piece in (
      inv.done ++ piece,
      record {
        is = taken_more _ _ _ inv.done piece inv.taken c.in-Ok.ensures.reads.moved;
        few = head_room c.args.reader.now.ports c.loop-n.reader inv.done c.read_front.new.piece c.in-Ok.n
            c.bytes_used-room.result inv.read (c.bytes_used-room.ensures.header inv.read.phase)
            c.bytes_used-room.ensures.value c.in-Ok.ensures.at_most;
      },
      λ rest left. header_refused c.args.reader.now.ports c.loop-n.reader c.header.new.self inv.done piece
          (nat_eq c.in-Ok.n 0) c.in-Ok-header.used c.in-Refused.refusal inv.read
          (subst (λ h. ReadsHead c.loop-n.reader c.header.new.self piece (nat_eq c.in-Ok.n 0)
          c.in-Ok-header.used h) c.in-Refused.is
          c.in-Ok-header.ensures) rest
          (λ last. none_follows _ _ c.read_front.new.piece rest c.in-Ok.n c.in-Ok.ensures.reads
          (grind (arith, nat_tests)) left),
    )
