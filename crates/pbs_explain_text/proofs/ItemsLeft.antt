-- The lines of the items that are left.
use Rattle.std.proofs.Common.{◌≡◌, ℕ, zero, suc, ◌+◌, ◌<◌, List, [], ◌∷◌, ◌++◌, length, refl, sym, ap, ◌∙◌, arith, drop}
use Rattle.std.specs.Prelude.{slice_index_or}
use Rattle.std.proofs.lemmas.List.{append_assoc}
use Rattle.pbs_base.specs.declared.refusal.Span.{Span}
use Rattle.pbs_explain.specs.declared.derivation.Item.{Item}
use Rattle.pbs_explain_text.specs.Explanations.{item_end, item_line, item_lines}

module _ (places scopes : List Span) where
  first_left : (from n : ℕ) (items : List Item) (d : Item) → n < length items
      → item_lines places scopes from (drop n items)
      ≡ item_line places scopes from (slice_index_or items n d)
      ++ item_lines places scopes (item_end from (slice_index_or items n d)) (drop (suc n) items)
  first_left from n [] d h = absurd (omega arith)
  first_left from zero (x ∷ xs) d h = refl
  first_left from (suc n) (x ∷ xs) d h = first_left from n xs d (omega arith)

  -- one line more stands behind the text
  pub line_more : (from to n : ℕ) (items : List Item) (d : Item) (old new whole : List ℕ) → n < length items
      → new ≡ old ++ item_line places scopes from (slice_index_or items n d)
      → to ≡ item_end from (slice_index_or items n d)
      → old ++ item_lines places scopes from (drop n items) ≡ whole
      → new ++ item_lines places scopes to (drop (n + 1) items) ≡ whole
  line_more from to n items d old new whole h put end so_far =
      let line = item_line places scopes from (slice_index_or items n d) in
      let next : n + 1 ≡ suc n = omega arith in
      ap (λ k. new ++ item_lines places scopes to (drop k items)) next
      ∙ (ap (λ t. new ++ item_lines places scopes t (drop (suc n) items)) end
      ∙ (ap (λ t. t ++ item_lines places scopes (item_end from (slice_index_or items n d)) (drop (suc n) items)) put
      ∙ (append_assoc old line _
      ∙ (ap (λ t. old ++ t) (sym (first_left from n items d h)) ∙ so_far))))
