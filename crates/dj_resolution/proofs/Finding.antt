-- What loops keep that look for a member: nothing was found so far.
use Rattle.std.proofs.Common.{◌≡◌, ℕ, zero, suc, ◌+◌, ◌-◌, ◌<◌, ◌≤◌, Bool, true, false, not, List, [], ◌∷◌, length, drop, get_or, Option, Some, None, IfSome, slice_get, nat_eq, bit_and, refl, sym, ◌∙◌, ap, subst, inl, inr, ◌⊎◌, arith, drop-cons, if◌then◌else◌}
use Rattle.std.specs.Prelude.{option_and_then}
use Rattle.std.specs.Option.{option_map}
use Rattle.std.proofs.lemmas.Option.{same_Some, none-some}
use Rattle.std.proofs.lemmas.Bool.{false≢true, eq-eqb, eqb-true}
use Rattle.std.proofs.lemmas.Bool.Decides.{nat_tests}
use Rattle.std.proofs.lemmas.Nat.Bits.{and_pow, bit_at-lt}
use Rattle.dj_names.specs.declared.descriptor.Desc.{Desc}
use Rattle.dj_names.specs.trusted.Types.{Name}
use Rattle.dj_model.specs.trusted.Program.{Program, Class, Method, method_in, superclass_of, flags_of, is_private, is_static, is_interface}
use Rattle.dj_model.specs.trusted.Linking.{most_classes, or_else, is_plain}
use Rattle.dj_model.proofs.MappedNames.{either}
use Rattle.dj_declarations.specs.Members.{method_flags}
use Rattle.dj_class_table.specs.Tables.{class_number, super_number, methods_of, methods_at, flags_in}
use Rattle.dj_resolution.specs.Numbers.{numbers_up, first_some, has, method_found, SaysMethod}
use Rattle.dj_resolution.proofs.Lists.{has_self, has_more}
use Rattle.dj_resolution.proofs.Levels.{most_is}
use Rattle.dj_resolution.proofs.Searches.{or_else_none}
use Rattle.dj_resolution.proofs.Walks.{Missing, There, looked, no_numbers_up}

-- ---- what is answered

pub reported_first : {A : Type 0} (t a b : Option A) → Some t ≡ option_map Some a → Some t ≡ option_map Some (or_else a b)
reported_first t None b reported = absurd (none-some t (sym reported))
reported_first t (Some x) b reported = reported

pub reported_none : {A : Type 0} (a : Option A) → None ≡ option_map Some a → a ≡ None
reported_none None reported = refl
reported_none (Some x) reported = absurd (none-some (Some x) reported)

pub reported_next : {A : Type 0} (a b : Option A) → None ≡ option_map Some a → or_else a b ≡ b
reported_next a b reported = rw (reported_none a reported) refl

-- ---- along a list

pub record IsSearched {A : Type 0} (f : ℕ → Option A) (xs : List ℕ) (i : ℕ) : Type 0 where
  pub same : first_some f xs ≡ first_some f (drop i xs)

one_more : {A : Type 0} (f : ℕ → Option A) (xs : List ℕ) (i : ℕ) → i < length xs → first_some f (drop i xs) ≡ or_else (f (get_or xs i 0)) (first_some f (drop (i + 1) xs))
one_more f xs i lt =
    let next : suc i ≡ i + 1 = omega arith in
    ap (first_some f) (drop-cons xs i 0 lt) ∙ ap (λ (n : ℕ). or_else (f (get_or xs i 0)) (first_some f (drop n xs))) next

pub searched_here : {A : Type 0} (f : ℕ → Option A) (xs : List ℕ) (i : ℕ) (t : Option A) → IsSearched f xs i → i < length xs → Some t ≡ option_map Some (f (get_or xs i 0)) → Some t ≡ option_map Some (first_some f xs)
searched_here f xs i t searched lt reported =
    reported_first t (f (get_or xs i 0)) (first_some f (drop (i + 1) xs)) reported ∙ ap (option_map Some) (sym (searched.same ∙ one_more f xs i lt))

pub searched_more : {A : Type 0} (f : ℕ → Option A) (xs : List ℕ) (i : ℕ) → IsSearched f xs i → i < length xs → None ≡ option_map Some (f (get_or xs i 0)) → IsSearched f xs (i + 1)
searched_more f xs i searched lt reported = record { same = searched.same ∙ one_more f xs i lt ∙ reported_next (f (get_or xs i 0)) (first_some f (drop (i + 1) xs)) reported }

pub drop_none : (xs : List ℕ) (i : ℕ) → length xs ≤ i → drop i xs ≡ []
drop_none [] zero le = refl
drop_none [] (suc i) le = refl
drop_none (x ∷ xs) zero le = absurd (omega (arith, le))
drop_none (x ∷ xs) (suc i) le = drop_none xs i (omega (arith, le))

pub searched_end : {A : Type 0} (f : ℕ → Option A) (xs : List ℕ) (i : ℕ) → IsSearched f xs i → length xs ≤ i → None ≡ option_map Some (first_some f xs)
searched_end f xs i searched le = ap (option_map Some) (sym (searched.same ∙ ap (first_some f) (drop_none xs i le)))

pub has_at : (xs : List ℕ) (i : ℕ) → i < length xs → has xs (get_or xs i 0) ≡ true
has_at [] i lt = absurd (omega (arith, lt))
has_at (x ∷ xs) zero lt = has_self xs x
has_at (x ∷ xs) (suc i) lt = has_more xs x (get_or xs i 0) (has_at xs i (omega (arith, lt)))

-- ---- up the superclasses

pub record IsWalked {A : Type 0} (f : ℕ → Option A) (program : Program) (start i : ℕ) (next : Option ℕ) : Type 0 where
  pub same : first_some f (numbers_up most_classes program (Some start)) ≡ first_some f (numbers_up (most_classes - i) program next)
  pub within : IfSome next (λ k. k < length program)

pub walk_begun : {A : Type 0} (f : ℕ → Option A) (program : Program) (start : ℕ) → start < length program → IsWalked f program start 0 (Some start)
walk_begun f program start lt =
    let none : most_classes - 0 ≡ most_classes = omega arith in
    record { same = ap (λ (n : ℕ). first_some f (numbers_up n program (Some start))) (sym none); within = lt }

one_level : {A : Type 0} (f : ℕ → Option A) (program : Program) (i at : ℕ) → i < 4294967296
    → first_some f (numbers_up (most_classes - i) program (Some at)) ≡ or_else (f at) (first_some f (numbers_up (most_classes - (i + 1)) program (super_number program at)))
unfolding numbers_up
one_level f program i at lt =
    let e = most_is in
    let level : most_classes - i ≡ suc (most_classes - (i + 1)) = omega (arith, e, lt) in
    ap (λ (n : ℕ). first_some f (numbers_up n program (Some at))) level

pub walked_here : {A : Type 0} (f : ℕ → Option A) (program : Program) (start i at : ℕ) (t : Option A) → IsWalked f program start i (Some at) → i < 4294967296 → Some t ≡ option_map Some (f at)
    → Some t ≡ option_map Some (first_some f (numbers_up most_classes program (Some start)))
walked_here f program start i at t walked lt reported =
    reported_first t (f at) (first_some f (numbers_up (most_classes - (i + 1)) program (super_number program at))) reported ∙ ap (option_map Some) (sym (walked.same ∙ one_level f program i at lt))

pub number_within : (program : Program) (name : Name) → IfSome (class_number program name) (λ k. k < length program)
number_within program name = elim (looked program name) [
  | Missing number class ↦ rw number tt
  | There k c number at class named lt ↦ rw number lt
]

pub super_within : (program : Program) (o : Option Class) → IfSome (option_and_then (class_number program) (superclass_of o)) (λ k. k < length program)
super_within program None = tt
super_within program (Some c) = go c.superclass where
  go : (name : Option Name) → IfSome (option_and_then (class_number program) name) (λ k. k < length program)
  go None = tt
  go (Some name) = number_within program name

pub walked_more : {A : Type 0} (f : ℕ → Option A) (program : Program) (start i at : ℕ) (next : Option ℕ) → IsWalked f program start i (Some at) → i < 4294967296 → None ≡ option_map Some (f at) → next ≡ super_number program at
    → IsWalked f program start (i + 1) next
walked_more f program start i at next walked lt reported is = record {
  same = walked.same ∙ one_level f program i at lt ∙ reported_next (f at) (first_some f (numbers_up (most_classes - (i + 1)) program (super_number program at))) reported
      ∙ ap (λ (o : Option ℕ). first_some f (numbers_up (most_classes - (i + 1)) program o)) (sym is);
  within = subst (λ (o : Option ℕ). IfSome o (λ k. k < length program)) (sym is) (super_within program (slice_get program at));
}

pub walked_off : {A : Type 0} (f : ℕ → Option A) (program : Program) (start i : ℕ) → IsWalked f program start i None → None ≡ option_map Some (first_some f (numbers_up most_classes program (Some start)))
walked_off f program start i walked = ap (option_map Some) (sym (walked.same ∙ ap (first_some f) (no_numbers_up (most_classes - i) program)))

pub walked_out : {A : Type 0} (f : ℕ → Option A) (program : Program) (start i : ℕ) (next : Option ℕ) → IsWalked f program start i next → 4294967296 ≤ i → None ≡ option_map Some (first_some f (numbers_up most_classes program (Some start)))
unfolding numbers_up
walked_out f program start i next walked le =
    let e = most_is in
    let none : most_classes - i ≡ 0 = omega (arith, e, le) in
    ap (option_map Some) (sym (walked.same ∙ ap (λ (n : ℕ). first_some f (numbers_up n program next)) none))

-- ---- flags

pub private_test : (flags : ℕ) → nat_eq (bit_and flags 2) 0 ≡ not (is_private flags)
private_test flags = let bit = and_pow flags 1 in let lt = bit_at-lt flags 1 in grind (arith, nat_tests)

pub static_test : (flags : ℕ) → nat_eq (bit_and flags 8) 0 ≡ not (is_static flags)
static_test flags = let bit = and_pow flags 3 in let lt = bit_at-lt flags 3 in grind (arith, nat_tests)

pub interface_test : (flags : ℕ) → nat_eq (bit_and flags 512) 0 ≡ not (is_interface flags)
interface_test flags = let bit = and_pow flags 9 in let lt = bit_at-lt flags 9 in grind (arith, nat_tests)

-- the method that was named, with its flags
pub data Named (o : Option Class) (member : ℕ) (name : Name) (desc : Desc) (flags : ℕ) : Type 0 where
  Is : (c : Class) (m : Method) → o ≡ Some c → slice_get c.methods member ≡ Some m → method_in c.methods name desc ≡ Some m → flags ≡ m.flags → Named o member name desc flags

named_in : (c : Class) (member : ℕ) (name : Name) (desc : Desc) (flags : ℕ) (there found : Option Method) → slice_get c.methods member ≡ there → method_in c.methods name desc ≡ found
    → Some there ≡ option_map Some found → Some flags ≡ option_map method_flags there → Named (Some c) member name desc flags
named_in c member name desc flags there None at is reported flagged = absurd (none-some there (sym reported))
named_in c member name desc flags None (Some m) at is reported flagged = absurd (none-some flags (sym flagged))
named_in c member name desc flags (Some n) (Some m) at is reported flagged = Is c m refl (at ∙ same_Some (Some n) (Some m) reported) is (same_Some flags n.flags flagged ∙ ap method_flags (same_Some n m (same_Some (Some n) (Some m) reported)))

pub named : (o : Option Class) (member : ℕ) (name : Name) (desc : Desc) (flags : ℕ) → Some (slice_get (methods_of o) member) ≡ option_map Some (method_in (methods_of o) name desc)
    → Some flags ≡ option_map method_flags (slice_get (methods_of o) member) → Named o member name desc flags
named None member name desc flags reported flagged = absurd (none-some flags (sym flagged))
named (Some c) member name desc flags reported flagged = named_in c member name desc flags (slice_get c.methods member) (method_in c.methods name desc) refl refl reported flagged

cleared : (b : Bool) (n : ℕ) → nat_eq n 0 ≡ not b → n ≡ 0 → b ≡ false
cleared true n test none = absurd (false≢true (sym test ∙ eq-eqb n 0 none))
cleared false n test none = refl

pub plain_there : (program : Program) (class member : ℕ) (name : Name) (desc : Desc) (flags : ℕ) → Some (slice_get (methods_at program class) member) ≡ option_map Some (method_in (methods_at program class) name desc)
    → Some flags ≡ option_map method_flags (slice_get (methods_at program class) member) → bit_and flags 2 ≡ 0 → bit_and flags 8 ≡ 0
    → SaysMethod program (Some (record { class = class; member = member })) (method_found program is_plain name desc class)
plain_there program class member name desc flags reported flagged private static = elim (named (slice_get program class) member name desc flags reported flagged) [
  | Is c m o at is same ↦
      (let p : is_private m.flags ≡ false = rw (← same) (cleared (is_private flags) (bit_and flags 2) (private_test flags) private) in
      let s : is_static m.flags ≡ false = rw (← same) (cleared (is_static flags) (bit_and flags 8) (static_test flags) static) in
      rw (o, at, is, p, s) refl)
]

pub plain_not_there : (program : Program) (class member : ℕ) (name : Name) (desc : Desc) (flags : ℕ) → Some (slice_get (methods_at program class) member) ≡ option_map Some (method_in (methods_at program class) name desc)
    → Some flags ≡ option_map method_flags (slice_get (methods_at program class) member) → (is_private flags ≡ true) ⊎ (is_static flags ≡ true)
    → SaysMethod program None (method_found program is_plain name desc class)
plain_not_there program class member name desc flags reported flagged which = elim (named (slice_get program class) member name desc flags reported flagged) [
  | Is c m o at is same ↦ rw (o, is, go m (subst (λ (f : ℕ). (is_private f ≡ true) ⊎ (is_static f ≡ true)) same which)) refl
] where
  go : (m : Method) → (is_private m.flags ≡ true) ⊎ (is_static m.flags ≡ true) → is_plain m ≡ false
  go m (inl private) = rw private refl
  go m (inr static) = elim (either (is_private m.flags)) [ inl e ↦ rw e refl | inr e ↦ rw (e, static) refl ]

set_bit : (b : Bool) (n : ℕ) → nat_eq n 0 ≡ not b → (n ≡ 0 → ⊥) → b ≡ true
set_bit true n test some = refl
set_bit false n test some = absurd (some (eqb-true n 0 test))

pub private_set : (flags : ℕ) → (bit_and flags 2 ≡ 0 → ⊥) → is_private flags ≡ true
private_set flags some = set_bit (is_private flags) (bit_and flags 2) (private_test flags) some

pub static_set : (flags : ℕ) → (bit_and flags 8 ≡ 0 → ⊥) → is_static flags ≡ true
static_set flags some = set_bit (is_static flags) (bit_and flags 8) (static_test flags) some

flags_there : (o : Option Class) (flags : ℕ) → Some flags ≡ option_map flags_in o → flags_of o ≡ flags
flags_there None flags reported = absurd (none-some flags (sym reported))
flags_there (Some c) flags reported = sym (same_Some flags c.flags reported)

pub interface_set : (o : Option Class) (flags : ℕ) → Some flags ≡ option_map flags_in o → (bit_and flags 512 ≡ 0 → ⊥) → is_interface (flags_of o) ≡ true
interface_set o flags reported some = rw (flags_there o flags reported) (set_bit (is_interface flags) (bit_and flags 512) (interface_test flags) some)

pub interface_clear : (o : Option Class) (flags : ℕ) → Some flags ≡ option_map flags_in o → bit_and flags 512 ≡ 0 → is_interface (flags_of o) ≡ false
interface_clear o flags reported none = rw (flags_there o flags reported) (cleared (is_interface flags) (bit_and flags 512) (interface_test flags) none)

-- ---- an interface, and then Object

pub first_of_class : {A : Type 0} (f : ℕ → Option A) (test : Bool) (class : ℕ) (classes others : List ℕ) (t : Option A) → test ≡ true → Some t ≡ option_map Some (f class)
    → Some t ≡ option_map Some (first_some f (if test then class ∷ classes else others))
first_of_class f test class classes others t is reported = rw is (reported_first t (f class) (first_some f classes) reported)

pub then_of_object : {A : Type 0} (f : ℕ → Option A) (test : Bool) (class object : ℕ) (others : List ℕ) (t : Option (Option A)) → test ≡ true → None ≡ option_map Some (f class) → t ≡ option_map Some (f object)
    → t ≡ option_map Some (first_some f (if test then class ∷ object ∷ [] else others))
then_of_object f test class object others t is none reported = rw is (reported ∙ ap (option_map Some) (sym (reported_next (f class) (or_else (f object) None) none ∙ or_else_none (f object))))

pub no_object : {A : Type 0} (f : ℕ → Option A) (test : Bool) (class : ℕ) (others : List ℕ) → test ≡ true → None ≡ option_map Some (f class) → None ≡ option_map Some (first_some f (if test then class ∷ [] else others))
no_object f test class others is none = rw is (ap (option_map Some) (sym (reported_next (f class) None none)))

pub of_superclasses : {A : Type 0} (f : ℕ → Option A) (test : Bool) (interfaces others : List ℕ) (t : Option (Option A)) → test ≡ false → t ≡ option_map Some (first_some f others)
    → t ≡ option_map Some (first_some f (if test then interfaces else others))
of_superclasses f test interfaces others t is reported = rw is reported

pub static_clear : (flags : ℕ) → bit_and flags 8 ≡ 0 → is_static flags ≡ false
static_clear flags none = cleared (is_static flags) (bit_and flags 8) (static_test flags) none

pub private_clear : (flags : ℕ) → bit_and flags 2 ≡ 0 → is_private flags ≡ false
private_clear flags none = cleared (is_private flags) (bit_and flags 2) (private_test flags) none
