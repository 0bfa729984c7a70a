-- Local variables by their slots, and when they flow into others.
use Rattle.std.proofs.Common.{◌≡◌, ℕ, zero, suc, ◌-◌, Bool, true, false, ◌&&◌, IsTrue, List, [], ◌∷◌, ◌++◌, length, replicate, reverse, Option, Some, None, refl, sym, ap, subst, ◌∙◌}
use Rattle.std.proofs.lemmas.List.{reverse-reverse}
use Rattle.std.specs.Cmp.Lexicographic.{pointwise}
use Rattle.dj_names.specs.declared.descriptor.Kind.{Kind}
use Rattle.dj_names.specs.declared.descriptor.Kind.TheVariants as kinds
use Rattle.dj_model.specs.trusted.Numbers.{same_kind}
use Rattle.dj_model.specs.trusted.Values.{local_at}
use Rattle.dj_model.specs.trusted.Initialisation.{padded}
use Rattle.dj_model.specs.trusted.Kinds.{Kinds}
use Rattle.dj_model.specs.trusted.Shape.{is_kind, locals_flow, flows_into}
use Rattle.dj_shape_rule.specs.Flows.{LocalsFlow}

-- ---- padding

none_at : {A : Type 0} (n slot : ℕ) → local_at {A = A} (replicate n None) slot ≡ None
none_at zero slot = refl
none_at (suc n) zero = refl
none_at (suc n) (suc slot) = none_at n slot

at_more : {A : Type 0} (xs : List (Option A)) (n slot : ℕ) → local_at (xs ++ replicate n None) slot ≡ local_at xs slot
at_more [] n slot = none_at n slot
at_more (x ∷ xs) n zero = refl
at_more (x ∷ xs) n (suc slot) = at_more xs n slot

-- local variables after the last have no kind
pub at_padded : {A : Type 0} (n : ℕ) (xs : List (Option A)) (slot : ℕ) → local_at (padded n xs) slot ≡ local_at xs slot
at_padded n xs slot = at_more xs (n - length xs) slot

-- ---- kinds

pub same_kinds : (a b : Kind) → IsTrue (same_kind a b) → a ≡ b
same_kinds kinds.Int kinds.Int t = refl
same_kinds kinds.Long kinds.Long t = refl
same_kinds kinds.Ref kinds.Ref t = refl
same_kinds kinds.Int kinds.Long t = absurd cc
same_kinds kinds.Int kinds.Ref t = absurd cc
same_kinds kinds.Long kinds.Int t = absurd cc
same_kinds kinds.Long kinds.Ref t = absurd cc
same_kinds kinds.Ref kinds.Int t = absurd cc
same_kinds kinds.Ref kinds.Long t = absurd cc

pub same_itself : (a : Kind) → IsTrue (same_kind a a)
same_itself kinds.Int = refl
same_itself kinds.Long = refl
same_itself kinds.Ref = refl

pub is_some_kind : (kind : Kind) (x : Option Kind) → IsTrue (is_kind kind x) → x ≡ Some kind
is_some_kind kind None t = absurd cc
is_some_kind kind (Some other) t = ap Some (sym (same_kinds kind other t))

pub kind_is : (kind : Kind) (x : Option Kind) → x ≡ Some kind → IsTrue (is_kind kind x)
kind_is kind None e = absurd cc
kind_is kind (Some other) e =
    let same : kind ≡ other = cc in
    subst (λ k. IsTrue (same_kind kind k)) same (same_itself kind)

-- ---- both of two

pub both : (a b : Bool) → IsTrue a → IsTrue b → IsTrue (a && b)
both true b x y = y
both false b x y = absurd cc

pub first_of_both : (a b : Bool) → IsTrue (a && b) → IsTrue a
first_of_both true b x = refl
first_of_both false b x = absurd cc

pub second_of_both : (a b : Bool) → IsTrue (a && b) → IsTrue b
second_of_both true b x = x
second_of_both false b x = absurd cc

-- ---- flows

pub from_flow : (locals reported : List (Option Kind)) → IsTrue (locals_flow locals reported) → LocalsFlow locals reported
from_flow locals [] t slot kind e = absurd cc
from_flow [] (None ∷ reported) t zero kind e = absurd cc
from_flow [] (None ∷ reported) t (suc slot) kind e = from_flow [] reported t slot kind e
from_flow [] (Some k ∷ reported) t slot kind e = absurd cc
from_flow (x ∷ locals) (None ∷ reported) t zero kind e = absurd cc
from_flow (x ∷ locals) (None ∷ reported) t (suc slot) kind e = from_flow locals reported t slot kind e
from_flow (x ∷ locals) (Some k ∷ reported) t zero kind e = is_some_kind k x (first_of_both (is_kind k x) (locals_flow locals reported) t) ∙ e
from_flow (x ∷ locals) (Some k ∷ reported) t (suc slot) kind e = from_flow locals reported (second_of_both (is_kind k x) (locals_flow locals reported) t) slot kind e

pub to_flow : (locals reported : List (Option Kind)) → LocalsFlow locals reported → IsTrue (locals_flow locals reported)
to_flow locals [] f = refl
to_flow [] (None ∷ reported) f = to_flow [] reported (λ slot kind e. f (suc slot) kind e)
to_flow [] (Some k ∷ reported) f = absurd (let none : None ≡ Some k = f 0 k refl in cc)
to_flow (x ∷ locals) (None ∷ reported) f = to_flow locals reported (λ slot kind e. f (suc slot) kind e)
to_flow (x ∷ locals) (Some k ∷ reported) f =
    both (is_kind k x) (locals_flow locals reported) (kind_is k x (f 0 k refl)) (to_flow locals reported (λ slot kind e. f (suc slot) kind e))

-- padding changes nothing
pub unpadded_flow : (m : ℕ) (locals reported : List (Option Kind)) → LocalsFlow locals (padded m reported) → LocalsFlow locals reported
unpadded_flow m locals reported f slot kind e = f slot kind (at_padded m reported slot ∙ e)

pub reported_padded : (m : ℕ) (locals reported : List (Option Kind)) → LocalsFlow locals reported → LocalsFlow locals (padded m reported)
reported_padded m locals reported f slot kind e = f slot kind (sym (at_padded m reported slot) ∙ e)

-- ---- operands

pub same_stacks : (a b : List Kind) → IsTrue (pointwise same_kind a b) → a ≡ b
same_stacks [] [] t = refl
same_stacks [] (y ∷ b) t = absurd cc
same_stacks (x ∷ a) [] t = absurd cc
same_stacks (x ∷ a) (y ∷ b) t =
    let first : x ≡ y = same_kinds x y (first_of_both (same_kind x y) (pointwise same_kind a b) t) in
    let rest : a ≡ b = same_stacks a b (second_of_both (same_kind x y) (pointwise same_kind a b) t) in
    cc

pub stack_itself : (a : List Kind) → IsTrue (pointwise same_kind a a)
stack_itself [] = refl
stack_itself (x ∷ a) = both (same_kind x x) (pointwise same_kind a a) (same_itself x) (stack_itself a)

-- ---- kinds that flow into others

pub from_flows : (left reported : Kinds) → IsTrue (flows_into left reported) → LocalsFlow left.locals reported.locals × (left.stack ≡ reported.stack)
from_flows left reported t = (
  from_flow left.locals reported.locals (first_of_both (locals_flow left.locals reported.locals) (pointwise same_kind left.stack reported.stack) t),
  same_stacks left.stack reported.stack (second_of_both (locals_flow left.locals reported.locals) (pointwise same_kind left.stack reported.stack) t),
)

pub to_flows : (left reported : Kinds) → LocalsFlow left.locals reported.locals → left.stack ≡ reported.stack → IsTrue (flows_into left reported)
to_flows left reported f e =
    both (locals_flow left.locals reported.locals) (pointwise same_kind left.stack reported.stack) (to_flow left.locals reported.locals f)
    (subst (λ s. IsTrue (pointwise same_kind left.stack s)) e (stack_itself left.stack))

pub reverse_injects : (a b : List Kind) → reverse a ≡ reverse b → a ≡ b
reverse_injects a b e = sym (reverse-reverse a) ∙ ap reverse e ∙ reverse-reverse b
