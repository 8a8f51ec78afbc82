-- A named file that is opened and read whole.
use Rattle.std.proofs.Common.{◌≡◌, ◌≤◌, ◌+◌, ℕ, List, [], ◌++◌, length, Option, Some, None, Result, Ok, Err, Vec}
use Rattle.std.proofs.Common.{option_map, refl, sym, ap, ◌∙◌, arith}
use Rattle.std.specs.Option.{ForSome}
use Rattle.std.specs.Io.KnownBytes.{prepend_known}
use Rattle.std.proofs.lemmas.Option.{same_Some}
use Rattle.std.specs.declared.alloc.Global.{Global}
use Rattle.pbs_io.specs.Outside.{ShelfState, NamedFile, Opens, content_of}
use Rattle.pbs_io.specs.ReadAll.{ReadsAll}
use Rattle.pbs_io.specs.declared.read.ReadFail.{ReadFail}
use Rattle.pbs_io.specs.declared.read.ReadFail.TheVariants.{Fault, TooLong, Memory}
use Rattle.pbs_io.proofs.ReadLemmas.{GoesOn-trans}
use Rattle.pbs_io.specs.Taken.{Opened, TakesAtMost, Took}
use Rattle.pbs_io.specs.Load.{Loads, LoadGives, HasFailed}

opened_content : {T E : Type 0} (x : T) (a b : ShelfState) (slot : ℕ) (name : List ℕ)
    → Opens {E = E} a b slot name (Ok x) → (files : List NamedFile) → a.files ≡ Some files
    → (b.slots slot).left ≡ Some (content_of files name)
opened_content x a b slot name opened files told = opened.left ∙ ap (option_map (λ all. content_of all name)) told

not_opened : {T E : Type 0} (e : E) (a b : ShelfState) (slot : ℕ) (name : List ℕ)
    → Opens {T = T} a b slot name (Err e) → HasFailed a b name
not_opened e a b slot name opened = record {
  rose = opened.cause;
  never = λ calm files told there. let bad =
      opened.never calm files told there in cc;
}

not_taken : {T E : Type 0} (e : E) (a b : ShelfState) (slot : ℕ) (name text : List ℕ)
    → Opens {T = T} a b slot name (Err e) → Took text (b.slots slot) []
not_taken e a b slot name text opened = record {
  rest = text;
  whole = refl;
  left = λ stands. absurd (let h = sym opened.stands ∙ stands in cc);
  none = λ gone. refl;
}

-- what was taken of a told text stands before what is left
known_rest : (taken text : List ℕ) (now : Option (List ℕ)) → Some text ≡ prepend_known taken now
    → (rest : List ℕ) × (now ≡ Some rest) × (taken ++ rest ≡ text)
known_rest taken text (Some rest) e = (rest, refl, sym (same_Some text (taken ++ rest) e))
known_rest taken text None e = absurd cc

took_few : {T E U : Type 0} (x : T) (a b c : ShelfState) (slot : ℕ) (name : List ℕ) (limit : ℕ) (out : List ℕ)
    (r : Result U ReadFail) → Opens {E = E} a b slot name (Ok x) → ReadsAll b c slot limit out r
    → ForSome a.files (λ files. TakesAtMost (limit + 1) (content_of files name) (a.slots slot) (c.slots slot))
took_few x a b c slot name limit out r opened read = λ files told.
    let text : List ℕ = content_of files name in
    let rest = known_rest read.takes.taken text (c.slots slot).left
    (sym (opened_content x a b slot name opened files told) ∙ read.takes.left) in
    record {
      taken = read.takes.taken;
      took = Opened (record {
        rest = rest.0;
        whole = rest.2;
        left = λ stands. rest.1;
        none = λ gone. absurd (let h = sym (read.stands ∙ opened.stands) ∙ gone in cc);
      });
      few = read.takes.few;
    }

pub load_not_opened : {T E : Type 0} (e : E) (a b : ShelfState) (slot : ℕ) (name : List ℕ) (limit : ℕ)
    → Opens {T = T} a b slot name (Err e) → Loads a b slot name limit (Err Fault)
load_not_opened e a b slot name limit opened = record {
  goes_on = opened.goes_on;
  other = opened.other;
  gives = not_opened e a b slot name opened;
  ended = tt;
  few = λ files told. record {
    taken = [];
    took = Opened (not_taken e a b slot name (content_of files name) opened);
    few = omega arith;
  };
}

pub load_whole : {T E U : Type 0} (x : T) (y : U) (a b c : ShelfState) (slot : ℕ) (name : List ℕ) (limit : ℕ)
    (out : Vec ℕ Global) → Opens {E = E} a b slot name (Ok x) → ReadsAll b c slot limit out.items (Ok y)
    → length out.items ≤ limit
    → Loads a c slot name limit (Ok out)
load_whole x y a b c slot name limit out opened read short = record {
  goes_on = GoesOn-trans a b c opened.goes_on read.goes_on;
  other = read.other ∙ opened.other;
  gives = (
    λ files told. (read.gives (content_of files name) (opened_content x a b slot name opened files told)).0,
    short,
  );
  ended = read.ended;
  few = took_few x a b c slot name limit out.items (Ok y) opened read;
}

gives_fail : {T E U : Type 0} (x : T) (a b c : ShelfState) (slot : ℕ) (name : List ℕ) (limit : ℕ) (out : List ℕ)
    (fail : ReadFail) → Opens {E = E} a b slot name (Ok x) → ReadsAll {T = U} b c slot limit out (Err fail)
    → LoadGives a c name limit (Err fail)
gives_fail x a b c slot name limit out TooLong opened read = λ files told.
    (read.gives (content_of files name) (opened_content x a b slot name opened files told)).1
gives_fail x a b c slot name limit out Memory opened read = tt
gives_fail x a b c slot name limit out Fault opened read = record {
  rose = let rose = read.cause refl in let later = opened.goes_on.later in omega arith;
  never = λ calm files told there. read.never (opened.goes_on.sound calm) opened.stands refl;
}

pub load_fails : {T E U : Type 0} (x : T) (a b c : ShelfState) (slot : ℕ) (name : List ℕ) (limit : ℕ) (out : List ℕ)
    (fail : ReadFail) → Opens {E = E} a b slot name (Ok x) → ReadsAll {T = U} b c slot limit out (Err fail)
    → Loads a c slot name limit (Err fail)
load_fails x a b c slot name limit out fail opened read = record {
  goes_on = GoesOn-trans a b c opened.goes_on read.goes_on;
  other = read.other ∙ opened.other;
  gives = gives_fail x a b c slot name limit out fail opened read;
  ended = tt;
  few = took_few x a b c slot name limit out (Err fail) opened read;
}
