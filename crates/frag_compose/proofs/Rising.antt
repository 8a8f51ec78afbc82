-- Wires and plans of a node from those of its parts.
use Rattle.std.proofs.Common.{◌≡◌, ℕ, ◌+◌, Bool, not, ◌&&◌, ◌||◌, sym, ◌∙◌, subst, arith}
use Rattle.net_core.specs.declared.gate.Wire.{Wire}
use Rattle.net_core.specs.Rows.{Row, IsRow, value}
use Rattle.net_core.specs.Circuits.{Circuit}
use Rattle.net_core.specs.Building.{Extends, Means}
use Rattle.pbs_machine.specs.Rows.{right_start, body_start}
use Rattle.frag_scopes.specs.Aborts.{ends_after_abort, stays_after_abort}
use Rattle.frag_compose.specs.inner.Plans.{IsInner, Rises, PlanFits, Signals, IsThen, IsEither, IsAgain, IsWatch}
use Rattle.frag_compose.specs.declared.nodes.Risen.{Risen}
use Rattle.frag_compose.specs.declared.plan.Plan.{Plan}
use Rattle.frag_compose.specs.declared.plan.Plan.TheVariants.{Nothing, Leaf, Then', Either', Again', Watch'}

pub extends_trans : (a b c : Circuit) (k m i j : ℕ) → Extends a b k i → Extends b c m j → Extends a c (k + m) (i + j)
extends_trans a b c k m i j e f = record {
  rows = λ row h. e.rows row (f.rows row h);
  there = λ w h. f.there w (e.there w h);
  inputs = f.inputs ∙ e.inputs;
  registers = f.registers ∙ e.registers;
  outputs = f.outputs ∙ e.outputs;
  fewest = omega arith;
  most = omega arith;
  few_pins = omega arith;
}

inner_later : (a b : Circuit) (k i : ℕ) (w : Wire) → Extends a b k i → IsInner a w → IsInner b w
inner_later a b k i w e h = record { there = e.there w h.there; inner = h.inner }

means_inner : (a : Circuit) (w : Wire) (f : Row → Bool) → Means a w f → IsInner a w
means_inner a w f m = record { there = m.there; inner = m.inner }

means_later : (a b : Circuit) (k i : ℕ) (w : Wire) (f : Row → Bool) → Means a w f → Extends a b k i → Means b w f
means_later a b k i w f m e =
    record { there = e.there w m.there; inner = m.inner; meaning = λ row h. m.meaning row (e.rows row h) }

-- the same wire under an equal meaning
means_same : (a : Circuit) (w : Wire) (f g : Row → Bool) → Means a w f
    → ((row : Row) → IsRow a.gates row → f row ≡ g row) → Means a w g
means_same a w f g m e = record { there = m.there; inner = m.inner; meaning = λ row h. m.meaning row h ∙ e row h }

fits_later : (a b : Circuit) (k i n : ℕ) (plan : Plan) → Extends a b k i → PlanFits a n plan → PlanFits b n plan
fits_later a b k i n Nothing e h = tt
fits_later a b k i n (Leaf l) e h = h
fits_later a b k i n (Then' w skip p x q y) e h =
    (inner_later a b k i w e h.0, fits_later a b k i n x e h.1, fits_later a b k i n y e h.2)
fits_later a b k i n (Either' p x q y) e h = (fits_later a b k i n x e h.0, fits_later a b k i n y e h.1)
fits_later a b k i n (Again' w p x) e h = (inner_later a b k i w e h.0, fits_later a b k i n x e h.1)
fits_later a b k i n (Watch' body trap p x q y u z) e h = (
  inner_later a b k i body.stays e h.0,
  inner_later a b k i trap.ends e h.1,
  fits_later a b k i n x e h.2,
  fits_later a b k i n y e h.3,
  fits_later a b k i n z e h.4,
)

pub rises_later : (a b : Circuit) (k i n : ℕ) (risen : Risen) (e : Signals) → Rises a n risen e → Extends a b k i
    → Rises b n risen e
rises_later a b k i n risen e r x = record {
  up_ends = means_later a b k i risen.up.ends e.ends_in r.up_ends x;
  up_stays = means_later a b k i risen.up.stays e.stays_in r.up_stays x;
  fits = fits_later a b k i n risen.plan x r.fits;
  same = λ row h. r.same row (x.rows row h);
  few = r.few;
}

abbrev seq_signals : Signals → Signals → Bool → Bool → Bool → Signals
seq_signals e f skip empty terminal = record {
  ends_in = λ row. f.ends_in row || (e.ends_in row && empty);
  stays_in = λ row. e.stays_in row || (f.stays_in row || (e.ends_in row && terminal));
  reaches_in = λ row s k leaf.
      e.reaches_in row s k leaf || f.reaches_in row (right_start s k (e.ends_in row) skip) k leaf;
  nodes = 1 + e.nodes + f.nodes;
}

abbrev choice_signals : Signals → Signals → Signals
choice_signals e f = record {
  ends_in = λ row. e.ends_in row || f.ends_in row;
  stays_in = λ row. e.stays_in row || f.stays_in row;
  reaches_in = λ row s k leaf. e.reaches_in row s k leaf || f.reaches_in row s k leaf;
  nodes = 1 + e.nodes + f.nodes;
}

abbrev star_signals : Signals → Bool → Signals
star_signals e terminal = record {
  ends_in = e.ends_in;
  stays_in = λ row. e.stays_in row || (e.ends_in row && terminal);
  reaches_in = λ row s k leaf. e.reaches_in row (body_start s k (e.ends_in row)) k leaf;
  nodes = 1 + e.nodes;
}

abbrev scope_signals : Signals → Signals → Signals → Bool → Bool → Signals
scope_signals e x h empty terminal = record {
  ends_in = λ row. ends_after_abort (e.ends_in row) (x.ends_in row) (h.ends_in row) empty;
  stays_in = λ row. stays_after_abort (e.stays_in row) (x.ends_in row) (h.stays_in row) terminal;
  reaches_in = λ row s k leaf.
      (e.reaches_in row s (k && not (x.ends_in row)) leaf
      || x.reaches_in row s ((k && not (x.ends_in row)) && e.stays_in row) leaf)
      || h.reaches_in row (x.ends_in row && k) k leaf;
  nodes = 1 + e.nodes + x.nodes + h.nodes;
}

module _ (c d : Circuit) (j i n : ℕ) (x : Extends c d j i) where
  -- the meanings of a node's wires, and its plan, in the later circuit
  ends_at : (risen : Risen) (e : Signals) → Rises c n risen e → (row : Row) → IsRow d.gates row
      → value row risen.up.ends ≡ e.ends_in row
  ends_at risen e p row h = p.up_ends.meaning row (x.rows row h)

  stays_at : (risen : Risen) (e : Signals) → Rises c n risen e → (row : Row) → IsRow d.gates row
      → value row risen.up.stays ≡ e.stays_in row
  stays_at risen e p row h = p.up_stays.meaning row (x.rows row h)

  ends_inner : (risen : Risen) (e : Signals) → Rises c n risen e → IsInner d risen.up.ends
  ends_inner risen e p = inner_later c d j i risen.up.ends x (means_inner c risen.up.ends e.ends_in p.up_ends)

  stays_inner : (risen : Risen) (e : Signals) → Rises c n risen e → IsInner d risen.up.stays
  stays_inner risen e p = inner_later c d j i risen.up.stays x (means_inner c risen.up.stays e.stays_in p.up_stays)

  plan_fits : (risen : Risen) (e : Signals) → Rises c n risen e → PlanFits d n risen.plan
  plan_fits risen e p = fits_later c d j i n risen.plan x p.fits

  pub seq_rises : (first second risen : Risen) (e f : Signals) (skip empty terminal skip' empty' terminal' : Bool)
      → skip ≡ skip' → empty ≡ empty' → terminal ≡ terminal' → Rises c n first e → Rises c n second f
      → Means d risen.up.ends (λ row. value row second.up.ends || (value row first.up.ends && empty))
      → Means d risen.up.stays (λ row.
      value row first.up.stays || (value row second.up.stays || (value row first.up.ends && terminal)))
      → IsThen risen.plan first.up.ends skip first.plan second.plan
      → Rises d n risen (seq_signals e f skip' empty' terminal')
  seq_rises first second risen e f skip empty terminal skip' empty' terminal' sk em te p q me ms plan = record {
    up_ends = means_same d risen.up.ends _ _ me (λ row h. rw (ends_at first e p row h, ends_at second f q row h, em));
    up_stays = means_same d risen.up.stays _ _ ms (λ row h.
        rw (stays_at first e p row h, stays_at second f q row h, ends_at first e p row h, te));
    fits = plan.fits d n (ends_inner first e p) (plan_fits first e p) (plan_fits second f q);
    same = λ row h s k leaf.
        let start = right_start s k (e.ends_in row) skip' in
        let old = x.rows row h in
        plan.reaches row s k leaf
        ∙ rw (sk, ends_at first e p row h, p.same row old s k leaf, q.same row old start k leaf);
    few = omega (arith, plan.nodes, p.few, q.few);
  }

  pub choice_rises : (first second risen : Risen) (e f : Signals) → Rises c n first e → Rises c n second f
      → Means d risen.up.ends (λ row. value row first.up.ends || value row second.up.ends)
      → Means d risen.up.stays (λ row. value row first.up.stays || value row second.up.stays)
      → IsEither risen.plan first.plan second.plan → Rises d n risen (choice_signals e f)
  choice_rises first second risen e f p q me ms plan = record {
    up_ends = means_same d risen.up.ends _ _ me (λ row h. rw (ends_at first e p row h, ends_at second f q row h));
    up_stays = means_same d risen.up.stays _ _ ms (λ row h. rw (stays_at first e p row h, stays_at second f q row h));
    fits = plan.fits d n (plan_fits first e p) (plan_fits second f q);
    same = λ row h s k leaf.
        let old = x.rows row h in
        plan.reaches row s k leaf ∙ rw (p.same row old s k leaf, q.same row old s k leaf);
    few = omega (arith, plan.nodes, p.few, q.few);
  }

  pub star_rises : (body risen : Risen) (e : Signals) (terminal terminal' : Bool) → terminal ≡ terminal'
      → Rises c n body e → risen.up.ends ≡ body.up.ends
      → Means d risen.up.stays (λ row. value row body.up.stays || (value row body.up.ends && terminal))
      → IsAgain risen.plan body.up.ends body.plan → Rises d n risen (star_signals e terminal')
  star_rises body risen e terminal terminal' te p me ms plan = record {
    up_ends = subst (λ w. Means d w e.ends_in) (sym me) (means_later c d j i body.up.ends e.ends_in p.up_ends x);
    up_stays = means_same d risen.up.stays _ _ ms (λ row h. rw (stays_at body e p row h, ends_at body e p row h, te));
    fits = plan.fits d n (ends_inner body e p) (plan_fits body e p);
    same = λ row h s k leaf.
        let start = body_start s k (e.ends_in row) in
        plan.reaches row s k leaf ∙ rw (ends_at body e p row h, p.same row (x.rows row h) start k leaf);
    few = omega (arith, plan.nodes, p.few);
  }

  pub scope_rises : (body trap after risen : Risen) (e y h : Signals) (empty terminal empty' terminal' : Bool)
      → empty ≡ empty' → terminal ≡ terminal' → Rises c n body e → Rises c n trap y → Rises c n after h
      → Means d risen.up.ends (λ row.
      ends_after_abort (value row body.up.ends) (value row trap.up.ends) (value row after.up.ends) empty)
      → Means d risen.up.stays (λ row.
      stays_after_abort (value row body.up.stays) (value row trap.up.ends) (value row after.up.stays) terminal)
      → IsWatch risen.plan body.up trap.up body.plan trap.plan after.plan
      → Rises d n risen (scope_signals e y h empty' terminal')
  scope_rises body trap after risen e y h empty terminal empty' terminal' em te p q r me ms plan = record {
    up_ends = means_same d risen.up.ends _ _ me (λ row l.
        rw (ends_at body e p row l, ends_at trap y q row l, ends_at after h r row l, em));
    up_stays = means_same d risen.up.stays _ _ ms (λ row l.
        rw (stays_at body e p row l, ends_at trap y q row l, stays_at after h r row l, te));
    fits = plan.fits d n (stays_inner body e p) (ends_inner trap y q) (plan_fits body e p) (plan_fits trap y q)
        (plan_fits after h r);
    same = λ row l s k leaf.
        let old = x.rows row l in
        let kept = k && not (y.ends_in row) in
        plan.reaches row s k leaf ∙ rw (
          ends_at trap y q row l,
          stays_at body e p row l,
          p.same row old s kept leaf,
          q.same row old s (kept && e.stays_in row) leaf,
          r.same row old (y.ends_in row && k) k leaf,
        );
    few = omega (arith, plan.nodes, p.few, q.few, r.few);
  }

-- a part of a plan still fits in a later circuit
pub part_fits : (a b : Circuit) (k i n n' : ℕ) (part at : Plan) → Extends a b k i → n' ≡ n → at ≡ part
    → PlanFits a n part → PlanFits b n' at
part_fits a b k i n n' part at e same is h =
    let later = fits_later a b k i n part e h in
    subst (λ plan. PlanFits b n' plan) (sym is) (subst (λ j. PlanFits b j part) (sym same) later)
