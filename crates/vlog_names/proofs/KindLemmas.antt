-- As what words are declared.
use Rattle.std.proofs.Common.{◌≡◌, ℕ, zero, suc, ◌+◌, ◌<◌, Bool, true, false, not, ◌&&◌, cond, List, [], ◌∷◌, ◌++◌}
use Rattle.std.proofs.Common.{length}
use Rattle.std.proofs.Common.{subst, map, filter, take, drop, Option, Some, get_or, refl, sym, ap, ◌∙◌, add-one}
use Rattle.std.proofs.Common.{arith}
use Rattle.std.specs.Prelude.{◌||◌}
use Rattle.std.specs.List.{filter_map}
use Rattle.std.specs.Str.{bytes_eq}
use Rattle.std.proofs.lemmas.List.Folds.{list_any-append}
use Rattle.pbs_base.specs.declared.refusal.Refusal.{Refusal}
use Rattle.vlog_text.specs.declared.raw.DeclKind.{DeclKind}
use Rattle.vlog_text.specs.declared.raw.DeclKind.TheVariants as kind
use Rattle.vlog_text.specs.declared.raw.RawName.{RawName}
use Rattle.vlog_text.specs.declared.raw.RawDecl.{RawDecl}
use Rattle.vlog_text.specs.Words.{has_word, is_named, repeated}
use Rattle.vlog_text.specs.Standing.{is_input, is_output, is_reg, is_port}
use Rattle.vlog_text.specs.Refusing.{earliest, refusals}
use Rattle.vlog_names.specs.declared.kinds.Kinds.{Kinds}
use Rattle.vlog_names.specs.declared.kinds.KindTable.{KindTable}
use Rattle.vlog_names.specs.Names.{is_wire, is_declared_in, kinds_of, kinds_in, KnowsKinds}
use Rattle.vlog_names.specs.inner.Steps.{with_kind, is_any, when}
use Rattle.vlog_names.proofs.Entries.{repeated_step, take_all, drop_all, mapped_present}

or_false : (a : Bool) → (a || false) ≡ a
or_false true = refl
or_false false = refl

field_more : (a s h : Bool) → (a || ((s && h) || false)) ≡ cond h (a || s) a
field_more a true true = refl
field_more a true false = or_false a
field_more a false true = refl
field_more a false false = or_false a

one_more : (ds : List RawDecl) (x : RawDecl) (such : DeclKind → Bool) (w : List ℕ)
    → is_declared_in (ds ++ x ∷ []) such w
    ≡ cond (bytes_eq w x.name.word) (is_declared_in ds such w || such x.kind) (is_declared_in ds such w)
one_more ds x such w =
    list_any-append (λ (d : RawDecl). such d.kind && has_word w d.name) ds (x ∷ [])
    ∙ field_more (is_declared_in ds such w) (such x.kind) (bytes_eq w x.name.word)

same_kinds : (i i' o o' w w' r r' : Bool) → i ≡ i' → o ≡ o' → w ≡ w' → r ≡ r'
    → (let k : Kinds = record { input = i; output = o; wire = w; reg = r } in k)
    ≡ record { input = i'; output = o'; wire = w'; reg = r' }
same_kinds i i' o o' w w' r r' p q s t =
    ap (λ (b : Bool). let k : Kinds = record { input = b; output = o; wire = w; reg = r } in k) p
    ∙ ap (λ (b : Bool). let k : Kinds = record { input = i'; output = b; wire = w; reg = r } in k) q
    ∙ ap (λ (b : Bool). let k : Kinds = record { input = i'; output = o'; wire = b; reg = r } in k) s
    ∙ ap (λ (b : Bool). let k : Kinds = record { input = i'; output = o'; wire = w'; reg = b } in k) t

pub kinds_more : (ds : List RawDecl) (x : RawDecl) (w : List ℕ)
    → kinds_of (ds ++ x ∷ []) w
    ≡ cond (bytes_eq w x.name.word) (with_kind (kinds_of ds w) x.kind) (kinds_of ds w)
kinds_more ds x w = same_kinds _ _ _ _ _ _ _ _ (one_more ds x is_input w) (one_more ds x is_output w)
    (one_more ds x is_wire w) (one_more ds x is_reg w) ∙ split (bytes_eq w x.name.word)
  where
    split : (b : Bool)
        → (let k : Kinds = record {
          input = cond b (is_declared_in ds is_input w || is_input x.kind) (is_declared_in ds is_input w);
          output = cond b (is_declared_in ds is_output w || is_output x.kind) (is_declared_in ds is_output w);
          wire = cond b (is_declared_in ds is_wire w || is_wire x.kind) (is_declared_in ds is_wire w);
          reg = cond b (is_declared_in ds is_reg w || is_reg x.kind) (is_declared_in ds is_reg w);
        } in k)
        ≡ cond b (with_kind (kinds_of ds w) x.kind) (kinds_of ds w)
    split true = refl
    split false = refl

any_step : (k : DeclKind) (h i o w r : Bool)
    → (((((is_input k && h) || i) || ((is_output k && h) || o)) || ((is_wire k && h) || w)) || ((is_reg k && h) || r))
    ≡ (h || (((i || o) || w) || r))
any_step kind.Input true i o w r = refl
any_step kind.Input false i o w r = refl
any_step kind.Output true true o w r = refl
any_step kind.Output true false o w r = refl
any_step kind.Output false i o w r = refl
any_step kind.Wire true true o w r = refl
any_step kind.Wire true false true w r = refl
any_step kind.Wire true false false w r = refl
any_step kind.Wire false i o w r = refl
any_step kind.Reg true true o w r = refl
any_step kind.Reg true false true w r = refl
any_step kind.Reg true false false true r = refl
any_step kind.Reg true false false false r = refl
any_step kind.Reg false i o w r = refl

-- the word is declared
pub any_is : (ds : List RawDecl) (w : List ℕ)
    → is_any (kinds_of ds w) ≡ is_named (map (λ (d : RawDecl). d.name) ds) w
any_is [] w = refl
any_is (d ∷ ds) w =
    any_step d.kind (has_word w d.name) (is_declared_in ds is_input w) (is_declared_in ds is_output w)
    (is_declared_in ds is_wire w) (is_declared_in ds is_reg w)
    ∙ ap (λ b. has_word w d.name || b) (any_is ds w)

inner_step : (k : DeclKind) (h w r : Bool)
    → (((is_wire k && h) || w) || ((is_reg k && h) || r)) ≡ ((not (is_port k) && h) || (w || r))
inner_step kind.Input h w r = refl
inner_step kind.Output h w r = refl
inner_step kind.Wire true w r = refl
inner_step kind.Wire false w r = refl
inner_step kind.Reg true true r = refl
inner_step kind.Reg true false r = refl
inner_step kind.Reg false w r = refl

-- the word is declared as wire or reg
pub inner_is : (ds : List RawDecl) (w : List ℕ)
    → ((kinds_of ds w).wire || (kinds_of ds w).reg) ≡ is_declared_in ds (λ k. not (is_port k)) w
inner_is [] w = refl
inner_is (d ∷ ds) w =
    inner_step d.kind (has_word w d.name) (is_declared_in ds is_wire w) (is_declared_in ds is_reg w)
    ∙ ap (λ b. (not (is_port d.kind) && has_word w d.name) || b) (inner_is ds w)

held_step : (k : DeclKind) (h i r : Bool)
    → (((is_input k && h) || i) || ((is_reg k && h) || r)) ≡ (((is_input k || is_reg k) && h) || (i || r))
held_step kind.Input true i r = refl
held_step kind.Input false i r = refl
held_step kind.Output h i r = refl
held_step kind.Wire h i r = refl
held_step kind.Reg true true r = refl
held_step kind.Reg true false r = refl
held_step kind.Reg false i r = refl

-- the word is declared as input or reg
pub held_is : (ds : List RawDecl) (w : List ℕ)
    → ((kinds_of ds w).input || (kinds_of ds w).reg) ≡ is_declared_in ds (λ k. is_input k || is_reg k) w
held_is [] w = refl
held_is (d ∷ ds) w =
    held_step d.kind (has_word w d.name) (is_declared_in ds is_input w) (is_declared_in ds is_reg w)
    ∙ ap (λ b. ((is_input d.kind || is_reg d.kind) && has_word w d.name) || b) (held_is ds w)

-- ---- declarations, one by one

pub record Declared (decls : List RawDecl) (i : ℕ) (table : KindTable) (start found : Option Refusal) : Type 0 where
  pub kinds_are : KnowsKinds (take i decls) table
  pub goes_on : earliest found (refusals 4 (repeated (filter_map (λ (d : RawDecl). Some d.name) (take i decls))
      (filter_map (λ (d : RawDecl). Some d.name) (drop i decls))))
      ≡ earliest start (refusals 4 (repeated [] (filter_map (λ (d : RawDecl). Some d.name) decls)))

take_decl : (ds : List RawDecl) (i : ℕ) (x : RawDecl) → i < length ds → x ≡ get_or ds i x
    → take (suc i) ds ≡ take i ds ++ x ∷ []
take_decl [] i x within at = absurd (omega arith)
take_decl (y ∷ ys) zero x within at = ap (λ z. z ∷ []) (sym at)
take_decl (y ∷ ys) (suc i) x within at = ap (λ ds. y ∷ ds) (take_decl ys i x (omega arith) at)

pub declared_more : (decls : List RawDecl) (i : ℕ) (x : RawDecl) (table new : KindTable) (is_known : Bool)
    (start found found' : Option Refusal) → i < length decls → x ≡ get_or decls i x
    → Declared decls i table start found → is_known ≡ is_any (kinds_in table x.name.word)
    → found' ≡ earliest found (refusals 4 (when is_known x.name))
    → ((w : List ℕ) → kinds_in new w
    ≡ cond (bytes_eq w x.name.word) (with_kind (kinds_in table w) x.kind) (kinds_in table w))
    → Declared decls (i + 1) new start found'
declared_more decls i x table new is_known start found found' within at old known noted added = record {
  kinds_are = record {
    knows = λ w.
        added w
        ∙ ap (λ k. cond (bytes_eq w x.name.word) (with_kind k x.kind) k) (old.kinds_are.knows w)
        ∙ sym (kinds_more (take i decls) x w)
        ∙ ap (λ ds. kinds_of ds w) (sym (take_decl decls i x within at))
        ∙ ap (λ n. kinds_of (take n decls) w) (sym (add-one i));
  };
  goes_on =
      repeated_step (λ (d : RawDecl). Some d.name) 4 decls i x (when is_known x.name) found found' within at
      (λ rest. ap (λ b. when b x.name ++ repeated (before ++ x.name ∷ []) rest) (sym same)) noted
      ∙ old.goes_on;
}
  where
    before : List RawName
    before = filter_map (λ (d : RawDecl). Some d.name) (take i decls)

    same : is_known ≡ is_named before x.name.word
    same = known ∙ ap (λ k. is_any k) (old.kinds_are.knows x.name.word) ∙ any_is (take i decls) x.name.word
        ∙ ap (λ ns. is_named ns x.name.word) (sym (mapped_present (λ (d : RawDecl). d.name) (take i decls)))

pub declared_kinds : (decls : List RawDecl) (i : ℕ) (table : KindTable) (start found : Option Refusal)
    → Declared decls i table start found → i ≡ length decls → KnowsKinds decls table
declared_kinds decls i table start found e all =
    subst (λ ds. KnowsKinds ds table) (take_all (λ (d : RawDecl). Some d.name) decls i all) e.kinds_are

pub declared_found : (decls : List RawDecl) (i : ℕ) (table : KindTable) (start found : Option Refusal)
    → Declared decls i table start found → i ≡ length decls
    → found ≡ earliest start (refusals 4 (repeated [] (map (λ (d : RawDecl). d.name) decls)))
declared_found decls i table start found e all =
    ap (λ ds. earliest found (refusals 4 (repeated (filter_map (λ (d : RawDecl). Some d.name) (take i decls))
    (filter_map (λ (d : RawDecl). Some d.name) ds)))) (sym (drop_all (λ (d : RawDecl). Some d.name) decls i all))
    ∙ e.goes_on
    ∙ ap (λ ns. earliest start (refusals 4 (repeated [] ns))) (mapped_present (λ (d : RawDecl). d.name) decls)

-- declarations that a test picks
pub decl_opens : (such : RawDecl → Bool) (x : RawDecl) (rest : List RawDecl)
    → map (λ (d : RawDecl). d.name) (filter such (x ∷ rest))
    ≡ when (such x) x.name ++ map (λ (d : RawDecl). d.name) (filter such rest)
decl_opens such x rest = go (such x)
  where
    go : (b : Bool) → map (λ (d : RawDecl). d.name) (cond b (x ∷ filter such rest) (filter such rest))
        ≡ when b x.name ++ map (λ (d : RawDecl). d.name) (filter such rest)
    go true = refl
    go false = refl
