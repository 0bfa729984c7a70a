-- Local variables and operands of the kinds that are known.
use Rattle.std.proofs.Common.{◌≡◌, ℕ, zero, suc, ◌+◌, ◌-◌, Bool, true, false, List, [], ◌∷◌, length, map, set, Option, Some, None, nat_eq, nat_le, refl, sym, ap, subst, ◌∙◌, if◌then◌else◌, inl, inr, length-set}
use Rattle.dj_names.specs.declared.descriptor.Kind.{Kind}
use Rattle.dj_names.specs.declared.descriptor.Kind.TheVariants as kinds
use Rattle.dj_names.specs.declared.run.Value.{Value}
use Rattle.dj_names.specs.trusted.Values.{value_kind}
use Rattle.dj_model.specs.trusted.Numbers.{same_kind, is_of_kind, is_wide, is_long}
use Rattle.dj_model.specs.trusted.Program.{Code}
use Rattle.dj_model.specs.trusted.Values.{local_at, is_some_wide, without_half, stored}
use Rattle.dj_model.specs.trusted.Kinds.{Kinds, depth}
use Rattle.dj_model.specs.trusted.Shape.{is_kind, taken, leaving, with_result, gives}
use Rattle.dj_model.specs.Standing.{LocalsHave}
use Rattle.dj_model.proofs.MappedNames.{either}

-- ---- tests

pub some_if : {A : Type 0} (b : Bool) (x : Option A) (y : A) → (if b then x else None) ≡ Some y → (b ≡ true) × (x ≡ Some y)
some_if true x y e = (refl, e)
some_if false x y e = absurd cc

pub same_kind_is : (a b : Kind) → same_kind a b ≡ true → a ≡ b
same_kind_is kinds.Int kinds.Int e = refl
same_kind_is kinds.Long kinds.Long e = refl
same_kind_is kinds.Ref kinds.Ref e = refl
same_kind_is _ _ e = absurd cc

pub same_kind_self : (a : Kind) → same_kind a a ≡ true
same_kind_self kinds.Int = refl
same_kind_self kinds.Long = refl
same_kind_self kinds.Ref = refl

pub of_kind : (kind : Kind) (v : Value) → value_kind v ≡ kind → is_of_kind kind v ≡ true
of_kind kind v e = rw e (same_kind_self kind)

-- ---- local variables

-- where a kind is known there is a value of it
pub record HasLocal (vs : List (Option Value)) (slot : ℕ) (kind : Kind) : Type 0 where
  pub value : Value
  pub found : local_at vs slot ≡ Some value
  pub kind_is : value_kind value ≡ kind

pub local_has : (vs : List (Option Value)) (ks : List (Option Kind)) (slot : ℕ) (kind : Kind) → LocalsHave vs ks → is_kind kind (local_at ks slot) ≡ true
    → HasLocal vs slot kind
local_has [] [] slot kind h e = absurd cc
local_has [] (k ∷ ks) slot kind h e = absurd h
local_has (v ∷ vs) [] slot kind h e = absurd cc
local_has (v ∷ vs) (None ∷ ks) zero kind h e = absurd cc
local_has (None ∷ vs) (Some k ∷ ks) zero kind h e = absurd h
local_has (Some v ∷ vs) (Some k ∷ ks) zero kind h e = record { value = v; found = refl; kind_is = h.0 ∙ sym (same_kind_is kind k e) }
local_has (v ∷ vs) (None ∷ ks) (suc slot) kind h e = let r = local_has vs ks slot kind h e in
    record { value = r.value; found = r.found; kind_is = r.kind_is }
local_has (None ∷ vs) (Some k ∷ ks) (suc slot) kind h e = absurd h
local_has (Some v ∷ vs) (Some k ∷ ks) (suc slot) kind h e = let r = local_has vs ks slot kind h.1 e in
    record { value = r.value; found = r.found; kind_is = r.kind_is }

pub set_has : (vs : List (Option Value)) (ks : List (Option Kind)) (slot : ℕ) (v : Value) (kind : Kind) → value_kind v ≡ kind
    → LocalsHave vs ks → LocalsHave (set vs slot (Some v)) (set ks slot (Some kind))
set_has [] [] slot v kind is h = tt
set_has [] (k ∷ ks) slot v kind is h = absurd h
set_has (None ∷ vs) [] slot v kind is h = absurd h
set_has (Some w ∷ vs) [] slot v kind is h = absurd h
set_has (None ∷ vs) (None ∷ ks) zero v kind is h = (is, h)
set_has (Some w ∷ vs) (None ∷ ks) zero v kind is h = (is, h)
set_has (None ∷ vs) (Some k ∷ ks) zero v kind is h = absurd h
set_has (Some w ∷ vs) (Some k ∷ ks) zero v kind is h = (is, h.1)
set_has (None ∷ vs) (None ∷ ks) (suc slot) v kind is h = set_has vs ks slot v kind is h
set_has (Some w ∷ vs) (None ∷ ks) (suc slot) v kind is h = set_has vs ks slot v kind is h
set_has (None ∷ vs) (Some k ∷ ks) (suc slot) v kind is h = absurd h
set_has (Some w ∷ vs) (Some k ∷ ks) (suc slot) v kind is h = (h.0, set_has vs ks slot v kind is h.1)

-- a value of the same kind stands there now
pub replace_has : (vs : List (Option Value)) (ks : List (Option Kind)) (slot : ℕ) (v : Value) → LocalsHave vs ks → is_kind (value_kind v) (local_at ks slot) ≡ true
    → LocalsHave (set vs slot (Some v)) ks
replace_has [] [] slot v h e = absurd cc
replace_has [] (k ∷ ks) slot v h e = absurd h
replace_has (None ∷ vs) [] slot v h e = absurd h
replace_has (Some w ∷ vs) [] slot v h e = absurd h
replace_has (w ∷ vs) (None ∷ ks) zero v h e = absurd cc
replace_has (None ∷ vs) (Some k ∷ ks) zero v h e = absurd h
replace_has (Some w ∷ vs) (Some k ∷ ks) zero v h e = (same_kind_is (value_kind v) k e, h.1)
replace_has (None ∷ vs) (None ∷ ks) (suc slot) v h e = replace_has vs ks slot v h e
replace_has (Some w ∷ vs) (None ∷ ks) (suc slot) v h e = replace_has vs ks slot v h e
replace_has (None ∷ vs) (Some k ∷ ks) (suc slot) v h e = absurd h
replace_has (Some w ∷ vs) (Some k ∷ ks) (suc slot) v h e = (h.0, replace_has vs ks slot v h.1 e)

clear_has : (vs : List (Option Value)) (ks : List (Option Kind)) (slot : ℕ) → LocalsHave vs ks → LocalsHave (set vs slot None) (set ks slot None)
clear_has [] [] slot h = tt
clear_has [] (k ∷ ks) slot h = absurd h
clear_has (None ∷ vs) [] slot h = absurd h
clear_has (Some w ∷ vs) [] slot h = absurd h
clear_has (None ∷ vs) (None ∷ ks) zero h = h
clear_has (Some w ∷ vs) (None ∷ ks) zero h = h
clear_has (None ∷ vs) (Some k ∷ ks) zero h = absurd h
clear_has (Some w ∷ vs) (Some k ∷ ks) zero h = h.1
clear_has (None ∷ vs) (None ∷ ks) (suc slot) h = clear_has vs ks slot h
clear_has (Some w ∷ vs) (None ∷ ks) (suc slot) h = clear_has vs ks slot h
clear_has (None ∷ vs) (Some k ∷ ks) (suc slot) h = absurd h
clear_has (Some w ∷ vs) (Some k ∷ ks) (suc slot) h = (h.0, clear_has vs ks slot h.1)

-- a local variable without the kind of a long may lose a long, as it has no kind then
lose_has : (vs : List (Option Value)) (ks : List (Option Kind)) (slot : ℕ) → is_some_wide is_long (local_at vs slot) ≡ true
    → is_some_wide is_wide (local_at ks slot) ≡ false → LocalsHave vs ks → LocalsHave (set vs slot None) ks
lose_has [] ks slot l k h = h
lose_has (None ∷ vs) [] slot l k h = absurd h
lose_has (Some w ∷ vs) [] slot l k h = absurd h
lose_has (None ∷ vs) (None ∷ ks) zero l k h = h
lose_has (Some w ∷ vs) (None ∷ ks) zero l k h = h
lose_has (None ∷ vs) (Some kind ∷ ks) slot l k h = absurd h
lose_has (Some w ∷ vs) (Some kind ∷ ks) zero l k h = let wide : is_wide kind ≡ true = subst (λ n. is_wide n ≡ true) h.0 l in absurd cc
lose_has (None ∷ vs) (None ∷ ks) (suc slot) l k h = lose_has vs ks slot l k h
lose_has (Some w ∷ vs) (None ∷ ks) (suc slot) l k h = lose_has vs ks slot l k h
lose_has (Some w ∷ vs) (Some kind ∷ ks) (suc slot) l k h = (h.0, lose_has vs ks slot l k h.1)

-- a kind that takes two slots has a value that does
wide_has : (vs : List (Option Value)) (ks : List (Option Kind)) (slot : ℕ) → LocalsHave vs ks → is_some_wide is_wide (local_at ks slot) ≡ true
    → is_some_wide is_long (local_at vs slot) ≡ true
wide_has [] [] slot h e = absurd cc
wide_has [] (k ∷ ks) slot h e = absurd h
wide_has (v ∷ vs) [] slot h e = absurd cc
wide_has (v ∷ vs) (None ∷ ks) zero h e = absurd cc
wide_has (None ∷ vs) (Some k ∷ ks) zero h e = absurd h
wide_has (Some v ∷ vs) (Some k ∷ ks) zero h e = rw h.0 e
wide_has (v ∷ vs) (None ∷ ks) (suc slot) h e = wide_has vs ks slot h e
wide_has (None ∷ vs) (Some k ∷ ks) (suc slot) h e = absurd h
wide_has (Some v ∷ vs) (Some k ∷ ks) (suc slot) h e = wide_has vs ks slot h.1 e

half_has : (vs : List (Option Value)) (ks : List (Option Kind)) (slot : ℕ) → LocalsHave vs ks
    → LocalsHave (without_half is_long vs slot) (without_half is_wide ks slot)
half_has vs ks slot h = elim (either (nat_eq slot 0)) [
  | inl e ↦ rw e h
  | inr e ↦ elim (either (is_some_wide is_wide (local_at ks (slot - 1)))) [
    | inl is ↦ rw (e, is, wide_has vs ks (slot - 1) h is) (clear_has vs ks (slot - 1) h)
    | inr other ↦ elim (either (is_some_wide is_long (local_at vs (slot - 1)))) [
      | inl long ↦ rw (e, other, long) (lose_has vs ks (slot - 1) long other h)
      | inr short ↦ rw (e, other, short) h
    ]
  ]
]

pub stored_has : (vs : List (Option Value)) (ks : List (Option Kind)) (slot : ℕ) (v : Value) (kind : Kind) → value_kind v ≡ kind → LocalsHave vs ks
    → LocalsHave (stored is_long vs slot v) (stored is_wide ks slot kind)
stored_has vs ks slot v kind is h = rw is (elim (either (is_wide kind)) [
  | inl wide ↦ rw wide (clear_has _ _ (slot + 1) (set_has _ _ slot v kind is (half_has vs ks slot h)))
  | inr one ↦ rw one (set_has _ _ slot v kind is (half_has vs ks slot h))
])

half_length : (vs : List (Option Value)) (slot : ℕ) → length (without_half is_long vs slot) ≡ length vs
half_length vs slot = elim (either (nat_eq slot 0)) [
  | inl e ↦ rw e refl
  | inr e ↦ elim (either (is_some_wide is_long (local_at vs (slot - 1)))) [
    | inl long ↦ rw (e, long) (length-set vs (slot - 1) None)
    | inr short ↦ rw (e, short) refl
  ]
]

pub stored_length : (vs : List (Option Value)) (slot : ℕ) (v : Value) → length (stored is_long vs slot v) ≡ length vs
stored_length vs slot v = elim (either (is_long v)) [
  | inl wide ↦ rw wide (length-set _ (slot + 1) None ∙ (length-set _ slot (Some v) ∙ half_length vs slot))
  | inr one ↦ rw one (length-set _ slot (Some v) ∙ half_length vs slot)
]

-- ---- operands that are taken

abbrev pub Takes : List Kind → List Value → List Kind → Type 0
Takes [] operands rest = map value_kind operands ≡ rest
Takes (kind ∷ wanted) [] rest = ⊥
Takes (kind ∷ wanted) (v ∷ operands) rest = (value_kind v ≡ kind) × Takes wanted operands rest

taken_values : (wanted : List Kind) (operands : List Value) (rest : List Kind) → taken wanted (map value_kind operands) ≡ Some rest → Takes wanted operands rest
taken_values [] operands rest e = cc
taken_values (kind ∷ wanted) [] rest e = absurd cc
taken_values (kind ∷ wanted) (v ∷ operands) rest e =
    let parts = some_if (same_kind kind (value_kind v)) (taken wanted (map value_kind operands)) rest e in
    (sym (same_kind_is kind (value_kind v) parts.0), taken_values wanted operands rest parts.1)

-- what is left of the kinds, where this is given
abbrev pub given : Option Kind → List Kind → List Kind
given None rest = rest
given (Some kind) rest = kind ∷ rest

pub record Gives (k : Kinds) (operands : List Value) (wanted : List Kind) (result : Option Kind) (left : Kinds) : Type 0 where
  pub rest : List Kind
  pub takes : Takes wanted operands rest
  pub locals : k.locals ≡ left.locals
  pub stack : given result rest ≡ left.stack

leaving_parts : (code : Code) (locals : List (Option Kind)) (stack : List Kind) (left : Kinds) → leaving code locals (Some stack) ≡ Some left
    → (locals ≡ left.locals) × (stack ≡ left.stack)
leaving_parts code locals stack left e =
    let parts = some_if (nat_le (depth stack) code.max_stack) (Some (record { locals = locals; stack = stack })) left e in
    let kinds : Some (record { locals = locals; stack = stack }) ≡ Some left = parts.1 in
    let same : record { locals = locals; stack = stack } ≡ left = cc in
    (ap (λ (k : Kinds). k.locals) same, ap (λ (k : Kinds). k.stack) same)

pub gives_parts : (code : Code) (k : Kinds) (operands : List Value) (wanted : List Kind) (result : Option Kind) (left : Kinds) → map value_kind operands ≡ k.stack
    → gives code k wanted result ≡ Some left → Gives k operands wanted result left
gives_parts code k operands wanted result left stack e = go (taken wanted k.stack) refl where
  go : (t : Option (List Kind)) → taken wanted k.stack ≡ t → Gives k operands wanted result left
  go None h = let none : leaving code k.locals (with_result result None) ≡ Some left = subst (λ t. leaving code k.locals (with_result result t) ≡ Some left) h e in absurd (nothing result none) where
    nothing : (result : Option Kind) → leaving code k.locals (with_result result None) ≡ Some left → ⊥
    nothing None n = absurd cc
    nothing (Some kind) n = absurd cc
  go (Some rest) h =
      let some : leaving code k.locals (with_result result (Some rest)) ≡ Some left = subst (λ t. leaving code k.locals (with_result result t) ≡ Some left) h e in
      let there : taken wanted (map value_kind operands) ≡ Some rest = subst (λ s. taken wanted s ≡ Some rest) (sym stack) h in
      by result rest (taken_values wanted operands rest there) some where
        by : (result : Option Kind) (rest : List Kind) → Takes wanted operands rest → leaving code k.locals (with_result result (Some rest)) ≡ Some left → Gives k operands wanted result left
        by None rest takes some = let parts = leaving_parts code k.locals rest left some in record { rest = rest; takes = takes; locals = parts.0; stack = parts.1 }
        by (Some kind) rest takes some = let parts = leaving_parts code k.locals (kind ∷ rest) left some in record { rest = rest; takes = takes; locals = parts.0; stack = parts.1 }
