-- What is known of instructions by their forms, whatever their indexes name.
use Rattle.std.proofs.Common.{◌≡◌, ℕ, zero, suc, ◌-◌, ◌<◌, ◌≤◌, Bool, true, false, ◌&&◌, ℤ, pos, List, [], ◌∷◌, map, Some, All, Contains, slice_get, get_or, nat_eq, nat_lt, nat_le, unsigned_abs, Decides, refl, sym, ap, subst, ◌∙◌, inl, inr, arith}
use Rattle.std.specs.Prelude.{⊤, ◌+ℤ◌}
use Rattle.std.proofs.lemmas.Bool.Decides.{nat_tests}
use Rattle.std.proofs.lemmas.Option.{slice_get_within, get_or_from_slice_get, slice_get-get_or}
use Rattle.dj_names.specs.declared.descriptor.Base.{Base}
use Rattle.dj_names.specs.declared.run.Element.{Element}
use Rattle.dj_names.specs.declared.run.Value.TheVariants as values
use Rattle.dj_names.specs.trusted.Types.{base_array}
use Rattle.dj_ops.specs.declared.instruction.Instr.{Instr}
use Rattle.dj_ops.specs.declared.instruction.Instr.TheVariants as instrs
use Rattle.dj_pool.specs.trusted.Pool.{Constant}
use Rattle.dj_model.specs.trusted.Types.{Member}
use Rattle.dj_model.specs.trusted.Instructions.{Named, Nothing, AnInt, ALong, AText, AClass, AField, AMethod, AnInterfaceMethod, Instruction, Push, PushText, NewArray, Other, ends, targets}
use Rattle.dj_model.specs.trusted.Opcodes.{Row, row_does, simple, constant_rows, store_rows, stack_rows, number_rows, bit_rows, last_rows, operand_does, local_rows, jump_rows, literal, member, member_does, field_rows, method_rows, interface_method_rows, interface_call, class_use, new_array, array_rows, table_pairs, lookup_pairs, instruction_of}
use Rattle.dj_model.specs.trusted.Kinds.{Kinds}
use Rattle.dj_model.proofs.MappedNames.{either}
use Rattle.dj_model.proofs.Flows.{either_way}
use Rattle.dj_program.specs.trusted.Naming.{instruction_in, named_at}
use Rattle.dj_shape_rule.specs.Reported.{ReportedFrames, reported_at}
use Rattle.dj_shape_rule.specs.Flows.{FlowsToFrame}
use Rattle.dj_shape_rule.specs.Forms.{form_ends, FormFlows}
use Rattle.dj_shape_rule.specs.Passing.{IsRun, JumpsFlow}
use Rattle.dj_shape_rule.proofs.Parts.{at_contains, contains_at}

-- ---- rows of opcodes

abbrev pub AllDo : (Instruction → Type 0) → List Row → Type 0
AllDo P [] = ⊤
AllDo P (row ∷ rows) = ((n : ℕ) → P (row.does n)) × AllDo P rows

pub row_such : (P : Instruction → Type 0) (named : Named) (op : ℕ) → P (Other op named) → (rows : List Row) → AllDo P rows → P (row_does rows named op)
row_such P named op other [] all = other
row_such P named op other (row ∷ rows) all =
    either_way P (nat_le row.first op && nat_le op row.last) (row.does (op - row.first)) (row_does rows named op) (all.0 (op - row.first)) (row_such P named op other rows all.1)

abbrev pub OperandDo : (ℕ → Instruction → Type 0) → List (ℕ × (ℕ → Instruction)) → Type 0
OperandDo P [] = ⊤
OperandDo P (row ∷ rows) = ((n : ℕ) → P n (row.1 n)) × OperandDo P rows

pub operand_such : (P : ℕ → Instruction → Type 0) (named : Named) (op n : ℕ) → P n (Other op named) → (rows : List (ℕ × (ℕ → Instruction))) → OperandDo P rows → P n (operand_does rows named op n)
operand_such P named op n other [] all = other
operand_such P named op n other (row ∷ rows) all =
    either_way (P n) (nat_eq op row.0) (row.1 n) (operand_does rows named op n) (all.0 n) (operand_such P named op n other rows all.1)

-- ---- instructions without operands

early_false : (named : Named) (op : ℕ) → (rows : List Row) → AllDo (λ i. ends i ≡ false) rows → ends (row_does rows named op) ≡ false
early_false named op rows all = row_such (λ i. ends i ≡ false) named op refl rows all

pub early : (named : Named) (op : ℕ) → op < 133 → ends (simple named op) ≡ false
unfolding simple
early named op h =
    let z : nat_lt op 133 ≡ true = grind (arith, nat_tests) in
    elim (either (nat_lt op 46)) [
      | inl a ↦ rw a (early_false named op constant_rows ((λ n. refl), ((λ n. refl), ((λ n. refl), ((λ n. refl), ((λ n. refl), ((λ n. refl), ((λ n. refl), tt))))))))
      | inr a ↦ elim (either (nat_lt op 87)) [
        | inl b ↦ rw (a, b) (early_false named op store_rows ((λ n. refl), ((λ n. refl), ((λ n. refl), ((λ n. refl), ((λ n. refl), ((λ n. refl), ((λ n. refl), ((λ n. refl), ((λ n. refl), ((λ n. refl), ((λ n. refl), ((λ n. refl), ((λ n. refl), ((λ n. refl), ((λ n. refl), tt))))))))))))))))
        | inr b ↦ elim (either (nat_lt op 96)) [
          | inl c ↦ rw (a, b, c) (early_false named op stack_rows ((λ n. refl), ((λ n. refl), ((λ n. refl), ((λ n. refl), ((λ n. refl), ((λ n. refl), ((λ n. refl), ((λ n. refl), ((λ n. refl), tt))))))))))
          | inr c ↦ elim (either (nat_lt op 120)) [
            | inl d ↦ rw (a, b, c, d) (early_false named op number_rows ((λ n. refl), ((λ n. refl), ((λ n. refl), ((λ n. refl), ((λ n. refl), ((λ n. refl), ((λ n. refl), ((λ n. refl), ((λ n. refl), ((λ n. refl), ((λ n. refl), ((λ n. refl), tt)))))))))))))
            | inr d ↦ rw (a, b, c, d, z) (early_false named op bit_rows ((λ n. refl), ((λ n. refl), ((λ n. refl), ((λ n. refl), ((λ n. refl), ((λ n. refl), ((λ n. refl), ((λ n. refl), ((λ n. refl), ((λ n. refl), ((λ n. refl), ((λ n. refl), tt)))))))))))))
          ]
        ]
      ]
    ]

pub late : (named : Named) (op : ℕ) → 133 ≤ op → simple named op ≡ row_does last_rows named op
unfolding simple
late named op h =
    let a : nat_lt op 46 ≡ false = grind (arith, nat_tests) in
    let b : nat_lt op 87 ≡ false = grind (arith, nat_tests) in
    let c : nat_lt op 96 ≡ false = grind (arith, nat_tests) in
    let d : nat_lt op 120 ≡ false = grind (arith, nat_tests) in
    let e : nat_lt op 133 ≡ false = grind (arith, nat_tests) in
    rw (a, b, c, d, e) refl

-- ---- each form

-- it goes on at the next one alone
abbrev IsCalm : Instruction → Type 0
IsCalm i = (ends i ≡ false) × (targets i ≡ [])

literal_calm : (op : ℕ) (named : Named) → IsCalm (literal op named)
literal_calm op (AnInt z) = either_way IsCalm (nat_eq op 20) (Other op (AnInt z)) (Push (values.Int z)) (refl, refl) (refl, refl)
literal_calm op (AText units) = either_way IsCalm (nat_eq op 20) (Other op (AText units)) (PushText units) (refl, refl) (refl, refl)
literal_calm op (ALong z) = either_way IsCalm (nat_eq op 20) (Push (values.Long z)) (Other op (ALong z)) (refl, refl) (refl, refl)
literal_calm op named = (refl, refl)

abbrev MemberDo : Member → List (ℕ × (Member → Instruction)) → Type 0
MemberDo m [] = ⊤
MemberDo m (row ∷ rows) = IsCalm (row.1 m) × MemberDo m rows

member_such : (named : Named) (op : ℕ) (m : Member) (rows : List (ℕ × (Member → Instruction))) → MemberDo m rows → IsCalm (member_does rows named op m)
member_such named op m [] all = (refl, refl)
member_such named op m (row ∷ rows) all = either_way IsCalm (nat_eq op row.0) (row.1 m) (member_does rows named op m) all.0 (member_such named op m rows all.1)

member_calm : (op : ℕ) (named : Named) → IsCalm (member op named)
member_calm op (AField m) = member_such (AField m) op m field_rows ((refl, refl), ((refl, refl), ((refl, refl), ((refl, refl), tt))))
member_calm op (AMethod m) = member_such (AMethod m) op m method_rows ((refl, refl), ((refl, refl), ((refl, refl), tt)))
member_calm op (AnInterfaceMethod m) = member_such (AnInterfaceMethod m) op m interface_method_rows ((refl, refl), ((refl, refl), tt))
member_calm op named = (refl, refl)

interface_calm : (count : ℕ) (named : Named) → IsCalm (interface_call count named)
interface_calm count (AnInterfaceMethod m) = (refl, refl)
interface_calm count named = (refl, refl)

class_calm : (op : ℕ) (named : Named) → IsCalm (class_use op named)
class_calm op (AClass class) = elim (either (nat_eq op 187)) [
  | inl a ↦ rw a (refl, refl)
  | inr a ↦ elim (either (nat_eq op 189)) [
    | inl b ↦ rw (a, b) (refl, refl)
    | inr b ↦ elim (either (nat_eq op 192)) [
      | inl c ↦ rw (a, b, c) (refl, refl)
      | inr c ↦ elim (either (nat_eq op 193)) [ inl d ↦ rw (a, b, c, d) (refl, refl) | inr d ↦ rw (a, b, c, d) (refl, refl) ]
    ]
  ]
]
class_calm op named = (refl, refl)

array_calm : (rows : List (ℕ × Base × Element)) (base : ℕ) → IsCalm (new_array rows base)
array_calm [] base = (refl, refl)
array_calm (row ∷ rows) base = either_way IsCalm (nat_eq base row.0) (NewArray (base_array row.1) row.2) (new_array rows base) (refl, refl) (array_calm rows base)

-- a load, a store or an unknown one
abbrev IsLocal : ℕ → Instruction → Type 0
IsLocal n i = (ends i ≡ false) × (targets i ≡ [])

local_still : (op slot : ℕ) (named : Named) → IsLocal slot (operand_does local_rows named op slot)
local_still op slot named = operand_such IsLocal named op slot (refl, refl) local_rows
    ((λ n. (refl, refl)), ((λ n. (refl, refl)), ((λ n. (refl, refl)), ((λ n. (refl, refl)), ((λ n. (refl, refl)), ((λ n. (refl, refl)), tt))))))

-- a jump, or an unknown one
abbrev IsJump : ℕ → Instruction → Type 0
IsJump n i = IsRun i → targets i ≡ n ∷ []

jump_jumps : (op target : ℕ) (named : Named) → IsJump target (operand_does jump_rows named op target)
jump_jumps op target named = operand_such IsJump named op target (λ run. absurd run) jump_rows
    ((λ n run. refl), ((λ n run. refl), ((λ n run. refl), ((λ n run. refl), ((λ n run. refl), ((λ n run. refl), ((λ n run. refl), ((λ n run. refl), ((λ n run. refl), ((λ n run. refl), ((λ n run. refl), ((λ n run. refl), ((λ n run. refl), ((λ n run. refl), ((λ n run. refl), ((λ n run. refl), ((λ n run. refl), ((λ n run. refl), tt))))))))))))))))))

simple_targets : (named : Named) (op : ℕ) → targets (simple named op) ≡ []
unfolding simple
simple_targets named op =
    elim (either (nat_lt op 46)) [
      | inl a ↦ rw a (none constant_rows ((λ n. refl), ((λ n. refl), ((λ n. refl), ((λ n. refl), ((λ n. refl), ((λ n. refl), ((λ n. refl), tt))))))))
      | inr a ↦ elim (either (nat_lt op 87)) [
        | inl b ↦ rw (a, b) (none store_rows ((λ n. refl), ((λ n. refl), ((λ n. refl), ((λ n. refl), ((λ n. refl), ((λ n. refl), ((λ n. refl), ((λ n. refl), ((λ n. refl), ((λ n. refl), ((λ n. refl), ((λ n. refl), ((λ n. refl), ((λ n. refl), ((λ n. refl), tt))))))))))))))))
        | inr b ↦ elim (either (nat_lt op 96)) [
          | inl c ↦ rw (a, b, c) (none stack_rows ((λ n. refl), ((λ n. refl), ((λ n. refl), ((λ n. refl), ((λ n. refl), ((λ n. refl), ((λ n. refl), ((λ n. refl), ((λ n. refl), tt))))))))))
          | inr c ↦ elim (either (nat_lt op 120)) [
            | inl d ↦ rw (a, b, c, d) (none number_rows ((λ n. refl), ((λ n. refl), ((λ n. refl), ((λ n. refl), ((λ n. refl), ((λ n. refl), ((λ n. refl), ((λ n. refl), ((λ n. refl), ((λ n. refl), ((λ n. refl), ((λ n. refl), tt)))))))))))))
            | inr d ↦ elim (either (nat_lt op 133)) [
              | inl e ↦ rw (a, b, c, d, e) (none bit_rows ((λ n. refl), ((λ n. refl), ((λ n. refl), ((λ n. refl), ((λ n. refl), ((λ n. refl), ((λ n. refl), ((λ n. refl), ((λ n. refl), ((λ n. refl), ((λ n. refl), ((λ n. refl), tt)))))))))))))
              | inr e ↦ rw (a, b, c, d, e) (none last_rows ((λ n. refl), ((λ n. refl), ((λ n. refl), ((λ n. refl), ((λ n. refl), ((λ n. refl), ((λ n. refl), ((λ n. refl), ((λ n. refl), ((λ n. refl), ((λ n. refl), ((λ n. refl), ((λ n. refl), tt))))))))))))))
            ]
          ]
        ]
      ]
    ] where
      none : (rows : List Row) → AllDo (λ i. targets i ≡ []) rows → targets (row_does rows named op) ≡ []
      none rows all = row_such (λ i. targets i ≡ []) named op refl rows all

-- ---- of all forms

pub ends_so : (pool : List Constant) (instr : Instr) → form_ends instr ≡ ends (instruction_in pool instr)
unfolding instruction_of
ends_so pool (instrs.Simple op) = refl
ends_so pool (instrs.Push op value) = refl
ends_so pool (instrs.Literal op index) = sym (literal_calm op _).0
ends_so pool (instrs.Local op slot wide) = sym (local_still op slot _).0
ends_so pool (instrs.Inc slot by wide) = refl
ends_so pool (instrs.Branch op target) = refl
ends_so pool (instrs.Table low default targets) = refl
ends_so pool (instrs.Lookup default pairs) = refl
ends_so pool (instrs.Member op index) = sym (member_calm op _).0
ends_so pool (instrs.Interface index count) = sym (interface_calm count _).0
ends_so pool (instrs.Dynamic index) = refl
ends_so pool (instrs.Class op index) = sym (class_calm op _).0
ends_so pool (instrs.Array base) = sym (array_calm array_rows base).0
ends_so pool (instrs.Multi index dims) = refl

-- ---- jumps

one_target : (left : Kinds) (frames : ReportedFrames) (targets : List ℕ) (target : ℕ) → targets ≡ target ∷ [] → FlowsToFrame left (reported_at frames target) → JumpsFlow left frames targets
one_target left frames targets target e flow n there =
    let same : Contains (target ∷ []) n = subst (λ (l : List ℕ). Contains l n) e there in
    let at = at_contains (target ∷ []) n same in
    first at.0 at.1 where
      first : (k : ℕ) → slice_get (target ∷ []) k ≡ Some n → FlowsToFrame left (reported_at frames n)
      first zero at = let s : target ≡ n = cc in subst (λ (x : ℕ). FlowsToFrame left (reported_at frames x)) s flow
      first (suc k) at = absurd cc

from_one : (left : Kinds) (frames : ReportedFrames) (targets : List ℕ) (target : ℕ) → targets ≡ target ∷ [] → JumpsFlow left frames targets → FlowsToFrame left (reported_at frames target)
from_one left frames targets target e flow = flow target (subst (λ (l : List ℕ). Contains l target) (sym e) (contains_at (target ∷ []) 0 target refl))

none_flow : (left : Kinds) (frames : ReportedFrames) (targets : List ℕ) → targets ≡ [] → JumpsFlow left frames targets
none_flow left frames targets e n there =
    let at = at_contains [] n (subst (λ (l : List ℕ). Contains l n) e there) in
    absurd (nothing at.0 at.1) where
      nothing : (k : ℕ) → slice_get [] k ≡ Some n → ⊥
      nothing k at = absurd cc

-- a table's targets, and those of matches
table_targets : (low : ℤ) (targets : List ℤ) → map (λ (pair : ℤ × ℕ). pair.1) (table_pairs low targets) ≡ map (λ (t : ℤ). unsigned_abs t) targets
table_targets low [] = refl
table_targets low (t ∷ targets) = ap (λ (l : List ℕ). unsigned_abs t ∷ l) (table_targets (low +ℤ pos 1) targets)

lookup_targets : (pairs : List (ℤ × ℤ)) → map (λ (pair : ℤ × ℕ). pair.1) (lookup_pairs pairs) ≡ map (λ (pair : ℤ × ℤ). unsigned_abs pair.1) pairs
lookup_targets [] = refl
lookup_targets (p ∷ pairs) = ap (λ (l : List ℕ). unsigned_abs p.1 ∷ l) (lookup_targets pairs)

each_of_map : {A : Type 0} (f : A → ℕ) (xs : List A) (n k : ℕ) → slice_get (map f xs) k ≡ Some n → (x : A) × (slice_get xs k ≡ Some x) × (f x ≡ n)
each_of_map f [] n k at = absurd cc
each_of_map f (x ∷ xs) n zero at = (x, refl, cc)
each_of_map f (x ∷ xs) n (suc k) at = each_of_map f xs n k at

at_map : {A : Type 0} (f : A → ℕ) (xs : List A) (k : ℕ) (x : A) → slice_get xs k ≡ Some x → slice_get (map f xs) k ≡ Some (f x)
at_map f [] k x at = absurd cc
at_map f (y ∷ xs) zero x at = let s : y ≡ x = cc in ap (λ z. Some (f z)) s
at_map f (y ∷ xs) (suc k) x at = at_map f xs k x at

all_at : {A : Type 0} (P : A → Type 0) (xs : List A) (k : ℕ) (x : A) → All P xs → slice_get xs k ≡ Some x → P x
all_at P xs k x all at = subst P (get_or_from_slice_get xs k x x at) (all k x (slice_get_within xs k x at))

-- the default, and then the targets of all that are listed
to_switch : {A : Type 0} (left : Kinds) (frames : ReportedFrames) (f : A → ℕ) (xs : List A) (default : ℕ) (rest : List ℕ) → rest ≡ map f xs → FlowsToFrame left (reported_at frames default)
    → All (λ x. FlowsToFrame left (reported_at frames (f x))) xs → JumpsFlow left frames (default ∷ rest)
to_switch {A} left frames f xs default rest e first all n there = let at = at_contains (default ∷ rest) n there in by at.0 at.1 where
  by : (k : ℕ) → slice_get (default ∷ rest) k ≡ Some n → FlowsToFrame left (reported_at frames n)
  by zero at = let s : default ≡ n = cc in subst (λ (x : ℕ). FlowsToFrame left (reported_at frames x)) s first
  by (suc k) at =
      let each = each_of_map f xs n k (sym (ap (λ (l : List ℕ). slice_get l k) e) ∙ at) in
      subst (λ (x : ℕ). FlowsToFrame left (reported_at frames x)) each.2 (all_at (λ x. FlowsToFrame left (reported_at frames (f x))) xs k each.0 all each.1)

from_switch : {A : Type 0} (left : Kinds) (frames : ReportedFrames) (f : A → ℕ) (xs : List A) (default : ℕ) (rest : List ℕ) → rest ≡ map f xs → JumpsFlow left frames (default ∷ rest)
    → FlowsToFrame left (reported_at frames default) × All (λ x. FlowsToFrame left (reported_at frames (f x))) xs
from_switch left frames f xs default rest e flow = (
  flow default (contains_at (default ∷ rest) 0 default refl),
  λ k d within. flow (f (get_or xs k d))
      (contains_at (default ∷ rest) (suc k) (f (get_or xs k d)) (ap (λ (l : List ℕ). slice_get l k) e ∙ at_map f xs k (get_or xs k d) (slice_get-get_or xs k d within))),
)

quiet_flow : (left : Kinds) (frames : ReportedFrames) (targets : List ℕ) → targets ≡ [] → (⊤ → JumpsFlow left frames targets) × (JumpsFlow left frames targets → ⊤)
quiet_flow left frames targets e = (λ t. none_flow left frames targets e, λ j. tt)

same_flow : (left : Kinds) (frames : ReportedFrames) (pool : List Constant) (instr : Instr) → IsRun (instruction_in pool instr)
    → (FormFlows left frames instr → JumpsFlow left frames (targets (instruction_in pool instr))) × (JumpsFlow left frames (targets (instruction_in pool instr)) → FormFlows left frames instr)
unfolding instruction_of
same_flow left frames pool (instrs.Simple op) run = quiet_flow left frames _ (simple_targets Nothing op)
same_flow left frames pool (instrs.Push op value) run = quiet_flow left frames _ refl
same_flow left frames pool (instrs.Literal op index) run = quiet_flow left frames _ (literal_calm op (named_at pool index)).1
same_flow left frames pool (instrs.Local op slot wide) run = quiet_flow left frames _ (local_still op slot Nothing).1
same_flow left frames pool (instrs.Inc slot by wide) run = quiet_flow left frames _ refl
same_flow left frames pool (instrs.Branch op target) run =
    let e = jump_jumps op (unsigned_abs target) Nothing run in
    (one_target left frames _ (unsigned_abs target) e, from_one left frames _ (unsigned_abs target) e)
same_flow left frames pool (instrs.Table low default targets) run =
    let e = table_targets low targets in (
      λ f. to_switch left frames (λ (t : ℤ). unsigned_abs t) targets (unsigned_abs default) _ e f.0 f.1,
      λ j. from_switch left frames (λ (t : ℤ). unsigned_abs t) targets (unsigned_abs default) _ e j,
    )
same_flow left frames pool (instrs.Lookup default pairs) run =
    let e = lookup_targets pairs in (
      λ f. to_switch left frames (λ (p : ℤ × ℤ). unsigned_abs p.1) pairs (unsigned_abs default) _ e f.0 f.1,
      λ j. from_switch left frames (λ (p : ℤ × ℤ). unsigned_abs p.1) pairs (unsigned_abs default) _ e j,
    )
same_flow left frames pool (instrs.Member op index) run = quiet_flow left frames _ (member_calm op (named_at pool index)).1
same_flow left frames pool (instrs.Interface index count) run = quiet_flow left frames _ (interface_calm count (named_at pool index)).1
same_flow left frames pool (instrs.Dynamic index) run = quiet_flow left frames _ refl
same_flow left frames pool (instrs.Class op index) run = quiet_flow left frames _ (class_calm op (named_at pool index)).1
same_flow left frames pool (instrs.Array base) run = quiet_flow left frames _ (array_calm array_rows base).1
same_flow left frames pool (instrs.Multi index dims) run = quiet_flow left frames _ refl

-- what is decided of the form is decided of the instruction
pub jumps_so : (left : Kinds) (frames : ReportedFrames) (pool : List Constant) (instr : Instr) (flows : Bool) → IsRun (instruction_in pool instr) → Decides flows (FormFlows left frames instr)
    → Decides flows (JumpsFlow left frames (targets (instruction_in pool instr)))
jumps_so left frames pool instr flows run d = let w = same_flow left frames pool instr run in (λ t. w.0 (d.0 t), λ j. d.1 (w.1 j))
