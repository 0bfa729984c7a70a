-- Classes by numbers in a table, the ways upward between them, and what is refused by them, by plain values.
use Rattle.std.proofs.Common.{◌≡◌, ℕ, zero, suc, ◌<◌, true, false, List, [], ◌∷◌, map, codes, arith, Contains, Option, Some, None, refl, ap, ◌∙◌, subst, inl, inr}
use Rattle.std.specs.List.{list_any}
use Rattle.std.proofs.lemmas.Bool.{false≢true}
use Rattle.std.proofs.lemmas.Option.{none-some, same_Some}
use Rattle.dj_names.specs.trusted.Types.{Name}
use Rattle.dj_model.specs.trusted.Program.{Program, Class}
use Rattle.dj_class_table.specs.Tables.{lacks_above}
use Rattle.dj_graph.specs.Graphs.{Edges, HasEdge, Reaches, Here, Along}
use Rattle.dj_loader.specs.declared.error.LoadError.TheVariants as errors
use Rattle.dj_loader.specs.Numbered.{above_numbers, edges_in, IsOnCycle, IsLacking, IsFirst, NeverSo, RefusesLacking, RefusesCycles, IsMemory, is_own, has_number, LeadsBack}
use Rattle.dj_loader.proofs.Lists.{member_first, member_later, member_none, member_cases}

abbrev class : Name → Option Name → List Name → Class
class name superclass interfaces = record {
  name = name;
  flags = 0;
  superclass = superclass;
  interfaces = interfaces;
  unnamed_fields = 0;
  fields = [];
  methods = [];
}

-- an interface, its superclass a class that lists it
abbrev a : Class
a = class (codes "a") None (codes "o" ∷ codes "b" ∷ [])

abbrev b : Class
b = class (codes "b") (Some (codes "a")) []

-- one above the cycle, and one below it, which lists an absent interface too
abbrev o : Class
o = class (codes "o") None []

abbrev u : Class
u = class (codes "u") (Some (codes "a")) (codes "z" ∷ [])

abbrev four : Program
four = a ∷ b ∷ o ∷ u ∷ []

-- ---- edges

-- the superclass first; an absent one has no number
numbers_above : map (above_numbers four) four ≡ (2 ∷ 1 ∷ []) ∷ (0 ∷ []) ∷ [] ∷ (0 ∷ []) ∷ []
numbers_above = refl

superclass_first : above_numbers four (class (codes "x") (Some (codes "b")) (codes "u" ∷ codes "y" ∷ codes "a" ∷ [])) ≡ 1 ∷ 3 ∷ 0 ∷ []
superclass_first = refl

edges_upward : edges_in four ≡ (2 ∷ 1 ∷ []) ∷ (0 ∷ []) ∷ [] ∷ (0 ∷ []) ∷ []
edges_upward = refl

edge : HasEdge (edges_in four) 0 1
edge = member_later 2 (1 ∷ []) 1 (member_first 1 [])

edge_back : HasEdge (edges_in four) 1 0
edge_back = member_first 0 []

-- an edge doesn't lead downward, and none leads to the last class
other_number : (m n : ℕ) → (m ≡ n → ⊥) → Contains (m ∷ []) n → ⊥
other_number m n differ member = elim (member_cases m [] n member) [ inl e ↦ differ e | inr none ↦ member_none n none ]

not_down : HasEdge (edges_in four) 2 0 → ⊥
not_down none = member_none 0 none

none_to_last : (k : ℕ) → HasEdge (edges_in four) k 3 → ⊥
none_to_last zero member = elim (member_cases 2 (1 ∷ []) 3 member) [ inl e ↦ absurd (omega (arith, e)) | inr more ↦ other_number 1 3 (λ e. omega (arith, e)) more ]
none_to_last (suc zero) member = other_number 0 3 (λ e. omega (arith, e)) member
none_to_last (suc (suc zero)) member = member_none 3 member
none_to_last (suc (suc (suc zero))) member = other_number 0 3 (λ e. omega (arith, e)) member
none_to_last (suc (suc (suc (suc k)))) none = none

-- ---- cycles

through_interface : IsOnCycle four 0
through_interface = (1, edge, Along edge_back Here)

from_superclass : IsOnCycle four 1
from_superclass = (0, edge_back, Along edge Here)

-- not one that only stands above a cycle, nor one that only stands below, nor one of no class
above_is_none : IsOnCycle four 2 → ⊥
above_is_none cycle = member_none cycle.0 cycle.1

last_only : {k n : ℕ} → Reaches (edges_in four) k n → n ≡ 3 → k ≡ 3
last_only Here is = is
last_only (Along {a = k} first rest) is = absurd (none_to_last k (subst (λ (n : ℕ). HasEdge (edges_in four) k n) (last_only rest is) first))

below_is_none : IsOnCycle four 3 → ⊥
below_is_none cycle = none_to_last 3 (subst (λ (n : ℕ). HasEdge (edges_in four) 3 n) (last_only cycle.2 refl) cycle.1)

none_past_end : IsOnCycle four 4 → ⊥
none_past_end cycle = cycle.1

own_superclass : IsOnCycle (class (codes "a") (Some (codes "a")) [] ∷ []) 0
own_superclass = (0, member_first 0 [], Here)

-- ---- absent ones

interface_lacks : IsLacking four 3
interface_lacks = (u, refl, refl)

superclass_lacks : IsLacking (class (codes "d") (Some (codes "y")) [] ∷ []) 0
superclass_lacks = (class (codes "d") (Some (codes "y")) [], refl, refl)

none_lacks : (k : ℕ) → k < 3 → IsLacking four k → ⊥
none_lacks zero lt (c, at, lacks) = false≢true (ap (lacks_above four) (same_Some a c at) ∙ lacks)
none_lacks (suc zero) lt (c, at, lacks) = false≢true (ap (lacks_above four) (same_Some b c at) ∙ lacks)
none_lacks (suc (suc zero)) lt (c, at, lacks) = false≢true (ap (lacks_above four) (same_Some o c at) ∙ lacks)
none_lacks (suc (suc (suc k))) lt lacking = absurd (omega (arith, lt))

none_lacks_past_end : IsLacking four 4 → ⊥
none_lacks_past_end (c, at, lacks) = none-some c at

-- ---- the first

first_cycle : IsFirst (IsOnCycle four) 0
first_cycle = record { such = through_interface; first = λ j lt cycle. omega (arith, lt) }

not_second : IsFirst (IsOnCycle four) 1 → ⊥
not_second first = first.first 0 (omega arith) through_interface

not_above : IsFirst (IsOnCycle four) 2 → ⊥
not_above first = above_is_none first.such

first_lacking : IsFirst (IsLacking four) 3
first_lacking = record { such = interface_lacks; first = none_lacks }

none_lacks_at_first : IsFirst (IsLacking four) 0 → ⊥
none_lacks_at_first first = none_lacks 0 (omega arith) first.such

never : NeverSo (IsOnCycle (o ∷ []))
never zero cycle = member_none cycle.0 cycle.1
never (suc k) cycle = cycle.1

never_lacks : NeverSo (IsLacking (o ∷ []))
never_lacks zero (c, at, lacks) = false≢true (ap (lacks_above (o ∷ [])) (same_Some o c at) ∙ lacks)
never_lacks (suc k) (c, at, lacks) = none-some c at

not_never : NeverSo (IsOnCycle four) → ⊥
not_never none = none 0 through_interface

not_never_lacks : NeverSo (IsLacking four) → ⊥
not_never_lacks none = none 3 interface_lacks

-- ---- refusals of one cause

memory : RefusesLacking [] errors.Memory × RefusesCycles [] errors.Memory × IsMemory errors.Memory
memory = (tt, tt, refl)

-- each refuses for its own cause alone
lacking_says_no_cycle : (name : Name) → RefusesLacking four (errors.Cycle name) → ⊥
lacking_says_no_cycle name refused = refused

lacking_says_no_name_twice : (name : Name) → RefusesLacking four (errors.Duplicate name) → ⊥
lacking_says_no_name_twice name refused = refused

cycles_say_none_lacking : (name : Name) → RefusesCycles four (errors.NoSuper name) → ⊥
cycles_say_none_lacking name refused = refused

not_memory : (name : Name) → IsMemory (errors.Cycle name) → ⊥
not_memory name e = absurd cc

-- ---- numbers of components

own_numbers : is_own 1 None ∷ is_own 1 (Some 1) ∷ is_own 1 (Some 0) ∷ [] ≡ false ∷ true ∷ false ∷ []
own_numbers = refl

-- of node 0 and 1 the number 7, of 2 the number 5, and none past the end
abbrev numbers : List ℕ
numbers = 7 ∷ 7 ∷ 5 ∷ []

numbers_reported : map (has_number numbers 7) (0 ∷ 1 ∷ 2 ∷ 3 ∷ []) ≡ true ∷ true ∷ false ∷ false ∷ []
numbers_reported = refl

-- 0 and 1 lead to each other, and 2 to 0
abbrev edges : Edges
edges = (2 ∷ 1 ∷ []) ∷ (0 ∷ []) ∷ (0 ∷ []) ∷ []

both_lead : LeadsBack edges numbers 0 × LeadsBack edges numbers 1
both_lead = ((7, 2 ∷ 1 ∷ [], refl, refl, refl), (7, 0 ∷ [], refl, refl, refl))

leads_elsewhere : LeadsBack edges numbers 2 → ⊥
leads_elsewhere (own, targets, numbered, at, leads) =
    let number : 5 ≡ own = same_Some 5 own numbered in
    let ends : 0 ∷ [] ≡ targets = same_Some (0 ∷ []) targets at in
    false≢true ((λ i. list_any (has_number numbers (number i)) (ends i)) ∙ leads)

leads_nowhere : LeadsBack ([] ∷ []) (7 ∷ []) 0 → ⊥
leads_nowhere (own, targets, numbered, at, leads) =
    let ends : [] ≡ targets = same_Some [] targets at in
    false≢true (ap (list_any (has_number (7 ∷ []) own)) ends ∙ leads)

none_of_no_number : LeadsBack edges [] 0 → ⊥
none_of_no_number (own, targets, numbered, at, leads) = none-some own numbered
