-- The file with a name.
use Rattle.std.proofs.Common.{◌≡◌, ◌≤◌, ◌+◌, ◌-◌, ℕ, Bool, true, false, cond, List, [], ◌∷◌, ◌++◌, set, get_or, refl}
use Rattle.std.proofs.Common.{sym, ap, subst, ◌∙◌, arith, Option, Some, None, IfSome, IfNone, suc, string_bytes}
use Rattle.std.proofs.Common.{bytes_eq}
use Rattle.std.specs.List.{position_from}
use Rattle.pbs_io.specs.Outside.{NamedFile, content_of, has_file, with_file}
use Rattle.pbs_io.specs.Cabinet.{entries, bytes_at}
use Rattle.pbs_io.specs.declared.cabinet.StoredFile.{StoredFile}

abbrev pub is_named : List ℕ → StoredFile → Bool
is_named name file = bytes_eq (string_bytes file.name) name

abbrev pub Found : List StoredFile → List ℕ → ℕ → ℕ → Type 0
Found files name from n = (from ≤ n) × (has_file (entries files) name ≡ true) ×
    (bytes_at files (n - from) ≡ content_of (entries files) name)

abbrev pub Missing : List StoredFile → List ℕ → Type 0
Missing files name = (has_file (entries files) name ≡ false) × (content_of (entries files) name ≡ [])

later_place : (file : StoredFile) (files : List StoredFile) (from n : ℕ) → from + 1 ≤ n
    → bytes_at (file ∷ files) (n - from) ≡ bytes_at files (n - (from + 1))
later_place file files from n le = let e : n - from ≡ suc (n - (from + 1)) = omega arith in rw e refl

weaker : (o : Option ℕ) (P Q : ℕ → Type 0) → ((n : ℕ) → P n → Q n) → IfSome o P → IfSome o Q
weaker None P Q f h = tt
weaker (Some n) P Q f h = f n h

found_from : (files : List StoredFile) (name : List ℕ) (from : ℕ)
    → IfSome (position_from (is_named name) from files) (Found files name from)
found_from [] name from = tt
found_from (file ∷ files) name from =
    elim (is_named name file) as (λ b. IfSome (cond b (Some from) (position_from (is_named name) (from + 1) files))
    (λ n. (from ≤ n) × (cond b true (has_file (entries files) name) ≡ true) ×
    (bytes_at (file ∷ files) (n - from) ≡ cond b file.bytes.items (content_of (entries files) name)))) [
      | true ↦ (omega arith, refl, let e : from - from ≡ 0 = omega arith in rw e refl)
      | false ↦ weaker (position_from (is_named name) (from + 1) files) _ _
          (λ n h. (
            let le = h.0 in omega arith,
            h.1,
            later_place file files from n h.0
                ∙ h.2,
          )) (found_from files name (from + 1))
    ]

missing_from : (files : List StoredFile) (name : List ℕ) (from : ℕ)
    → IfNone (position_from (is_named name) from files) (Missing files name)
missing_from [] name from = (refl, refl)
missing_from (file ∷ files) name from =
    elim (is_named name file) as (λ b. IfNone (cond b (Some from) (position_from (is_named name) (from + 1) files))
    ((cond b true (has_file (entries files) name) ≡ false) ×
    (cond b file.bytes.items (content_of (entries files) name) ≡ []))) [
      | true ↦ tt
      | false ↦ missing_from files name (from + 1)
    ]

pub found : (files : List StoredFile) (name : List ℕ)
    → IfSome (position_from (is_named name) 0 files)
    (λ n. (has_file (entries files) name ≡ true) × (bytes_at files n ≡ content_of (entries files) name))
found files name = weaker (position_from (is_named name) 0 files) _ _
    (λ n h. (h.1, let e : n - 0 ≡ n = omega arith in ap (bytes_at files) (sym e) ∙ h.2)) (found_from files name 0)

pub missing : (files : List StoredFile) (name : List ℕ)
    → IfNone (position_from (is_named name) 0 files) (Missing files name)
missing files name = missing_from files name 0

-- other bytes under a name that is there
set_from : (files : List StoredFile) (name bytes : List ℕ) (from : ℕ) (file : StoredFile) → file.bytes.items ≡ bytes
    → IfSome (position_from (is_named name) from files)
    (λ n. string_bytes file.name ≡ string_bytes (get_or files (n - from) file).name
    → entries (set files (n - from) file) ≡ with_file (entries files) name bytes)
set_from [] name bytes from file same = tt
set_from (first ∷ files) name bytes from file same =
    elim (is_named name first) as (λ b. IfSome (cond b (Some from) (position_from (is_named name) (from + 1) files))
    (λ n. string_bytes file.name ≡ string_bytes (get_or (first ∷ files) (n - from) file).name
    → entries (set (first ∷ files) (n - from) file) ≡ cond b
    (record { name = string_bytes first.name; bytes = bytes } ∷ entries files)
    (record { name = string_bytes first.name; bytes = first.bytes.items } ∷ with_file (entries files) name
    bytes))) [
      | true ↦ λ named. let here : from - from ≡ 0 = omega arith in
          let alike : string_bytes file.name ≡ string_bytes first.name = named
          ∙ ap (λ k. string_bytes (get_or (first ∷ files) k file).name) here in
          ap (λ k. entries (set (first ∷ files) k file)) here
          ∙ ap (λ (e : NamedFile). e ∷ entries files)
          (ap (λ l. let e : NamedFile = record { name = l; bytes = file.bytes.items } in e) alike
          ∙ ap (λ l. let e : NamedFile = record { name = string_bytes first.name; bytes = l } in e) same)
      | false ↦ weaker (position_from (is_named name) (from + 1) files) _ _ (λ n h named.
          let le : from + 1 ≤ n = at_least files name (from + 1) n h.0 in
          let next : n - from ≡ suc (n - (from + 1)) = omega arith in
          ap (λ k. entries (set (first ∷ files) k file)) next
          ∙ ap (λ l. record { name = string_bytes first.name; bytes = first.bytes.items } ∷ l) (h.1 (named
          ∙ ap (λ k. string_bytes (get_or (first ∷ files) k file).name) next)))
          (both (position_from (is_named name) (from + 1) files) _ (set_from files name bytes (from + 1) file same))
    ] where
      at_least : (files : List StoredFile) (name : List ℕ) (from n : ℕ)
          → position_from (is_named name) from files ≡ Some n → from ≤ n
      at_least files name from n e = (let P : Option ℕ
          → Type 0 = λ o. IfSome o (Found files name from) in subst P e (found_from files name from)).0

      both : (o : Option ℕ) (P : ℕ → Type 0) → IfSome o P → IfSome o (λ n. (o ≡ Some n) × P n)
      both None P h = tt
      both (Some n) P h = (refl, h)

pub entries_set : (files : List StoredFile) (name bytes : List ℕ) (index : ℕ) (file : StoredFile)
    → Some index ≡ position_from (is_named name) 0 files → file.bytes.items ≡ bytes
    → string_bytes file.name ≡ string_bytes (get_or files index file).name
    → entries (set files index file) ≡ with_file (entries files) name bytes
entries_set files name bytes index file at same named =
    let zero_off : index - 0 ≡ index = omega arith in
    let all : IfSome (Some index) (λ n. string_bytes file.name ≡ string_bytes (get_or files (n - 0) file).name
    → entries (set files (n - 0) file) ≡ with_file (entries files) name bytes) =
    (let P : Option ℕ → Type 0 = λ o. IfSome o (λ n. string_bytes file.name ≡ string_bytes
    (get_or files (n - 0) file).name → entries (set files (n - 0) file) ≡ with_file (entries files) name bytes) in
    subst P (sym at) (set_from files name bytes 0 file same)) in
    ap (λ k. entries (set files k file)) (sym zero_off)
    ∙ all (named ∙ ap (λ k. string_bytes (get_or files k file).name) (sym zero_off))

more_from : (files : List StoredFile) (name bytes : List ℕ) (from : ℕ) (file : StoredFile) → file.bytes.items ≡ bytes
    → string_bytes file.name ≡ name
    → IfNone (position_from (is_named name) from files)
    (entries (files ++ file ∷ []) ≡ with_file (entries files) name bytes)
more_from [] name bytes from file same named = ap (λ (e : NamedFile). e ∷ [])
    (ap (λ l. let e : NamedFile = record { name = l; bytes = file.bytes.items } in e) named
    ∙ ap (λ l. let e : NamedFile = record { name = name; bytes = l } in e) same)
more_from (first ∷ files) name bytes from file same named =
    elim (is_named name first) as (λ b. IfNone (cond b (Some from) (position_from (is_named name) (from + 1) files))
    (entries (first ∷ (files ++ file ∷ [])) ≡ cond b
    (record { name = string_bytes first.name; bytes = bytes } ∷ entries files)
    (record { name = string_bytes first.name; bytes = first.bytes.items } ∷ with_file (entries files) name
    bytes))) [
      | true ↦ tt
      | false ↦ on_none (position_from (is_named name) (from + 1) files)
          (ap (λ l. record { name = string_bytes first.name; bytes = first.bytes.items } ∷ l))
          (more_from files name bytes (from + 1) file same named)
    ] where
      on_none : {P Q : Type 0} (o : Option ℕ) → (P → Q) → IfNone o P → IfNone o Q
      on_none None f h = f h
      on_none (Some n) f h = tt

pub entries_more : (files : List StoredFile) (name bytes : List ℕ) (file : StoredFile)
    → None ≡ position_from (is_named name) 0 files → file.bytes.items ≡ bytes → string_bytes file.name ≡ name
    → entries (files ++ file ∷ []) ≡ with_file (entries files) name bytes
entries_more files name bytes file absent same named = let P : Option ℕ
    → Type 0 = λ o. IfNone o (entries (files ++ file ∷ []) ≡ with_file (entries files) name bytes) in subst P
    (sym absent) (more_from files name bytes 0 file same named)
