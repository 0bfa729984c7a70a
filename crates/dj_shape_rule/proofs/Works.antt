-- What instructions do to kinds is what the code makes of them.
use Rattle.std.proofs.Common.{◌≡◌, ℕ, zero, suc, ◌+◌, Bool, true, false, List, [], ◌∷◌, ◌++◌, reverse, sum_by, Option, Some, None, nat_eq, Result, Ok, Err, IfOk, refl, sym, ap, subst, ◌∙◌, inl, inr, arith, if◌then◌else◌}
use Rattle.std.proofs.lemmas.List.{reverse-append}
use Rattle.std.proofs.lemmas.List.Sums.{sum_by-cons}
use Rattle.dj_names.specs.declared.descriptor.Kind.{Kind}
use Rattle.dj_names.specs.declared.descriptor.Kind.TheVariants as kinds
use Rattle.dj_names.specs.declared.descriptor.Base.TheVariants as bases
use Rattle.dj_names.specs.declared.descriptor.Of.{Of}
use Rattle.dj_names.specs.declared.descriptor.Of.TheVariants as ofs
use Rattle.dj_names.specs.declared.descriptor.Ty.{Ty}
use Rattle.dj_names.specs.declared.descriptor.Desc.{Desc}
use Rattle.dj_names.specs.declared.descriptor.Desc.TheVariants as descs
use Rattle.dj_names.specs.trusted.Descriptors.{slots_of, type_kind, type_slots}
use Rattle.dj_names.specs.trusted.Types.{field_kind}
use Rattle.dj_model.specs.trusted.Program.{Code}
use Rattle.dj_model.specs.trusted.Instructions.{Instruction, Nop, Push, PushText, Load, Store, Increment, LoadElement, StoreElement, Move, Compute, Convert, Branch, Goto, Switch, Return, GetStatic, PutStatic, GetField, PutField, Invoke, New, NewArray, ArrayLength, Throw, CheckCast, InstanceOf, Monitor, Other, Mode, Virtual, Special, Static, Interface}
use Rattle.dj_model.specs.trusted.Members.{with_kind, kinds_of}
use Rattle.dj_model.specs.trusted.Numbers.{is_wide, same_kind}
use Rattle.dj_model.specs.trusted.Values.{Cut, one_slot, two_slots, under_one, under_two, local_at, moved}
use Rattle.dj_model.specs.trusted.Kinds.{Signature, signature_with, signature_result, call_signature, with_receiver, signature_of, Kinds, kind_slots, depth}
use Rattle.dj_model.specs.trusted.Shape as shapes
use Rattle.dj_model.specs.trusted.Shape.{after, taken, leaving, gives, store_kind, is_kind, same_result, result_list, get_kind, put_kind, counts, is_static_mode, call_kinds}
use Rattle.dj_model.proofs.MappedNames.{either}
use Rattle.dj_shape_rule.specs.declared.effect.SlotWidth.{SlotWidth}
use Rattle.dj_shape_rule.specs.declared.effect.SlotWidth.TheVariants as slots
use Rattle.dj_shape_rule.specs.declared.effect.KindMovement.TheVariants as moves
use Rattle.dj_shape_rule.specs.Standing.{Standing, HasRoomOf, GivesResult, Leaves, Takes, room}
use Rattle.dj_shape_rule.specs.Works.{Work, Gives, Loads, Stores, Increments, Moves, Returns, Calls, Fails, got, put, call_work, is_counted, arguments_of, called, performed, work_of, cut_of, put_under, move_view}

-- ---- operands

-- operands are taken one after the other
taken_one : (b : Bool) (a c stack rest : List Kind) → (taken a stack ≡ Some rest → taken (a ++ c) stack ≡ taken c rest)
    → (if b then taken a stack else None) ≡ Some rest → (if b then taken (a ++ c) stack else None) ≡ taken c rest
taken_one true a c stack rest more e = more e
taken_one false a c stack rest more e = absurd cc

taken_append : (a c stack rest : List Kind) → taken a stack ≡ Some rest → taken (a ++ c) stack ≡ taken c rest
taken_append [] c stack rest e =
    let same : stack ≡ rest = cc in
    ap (taken c) same
taken_append (kind ∷ a) c [] rest e = absurd cc
taken_append (kind ∷ a) c (top ∷ stack) rest e = taken_one (same_kind kind top) a c stack rest (taken_append a c stack rest) e

none_one : (b : Bool) (a c stack : List Kind) → (taken a stack ≡ None → taken (a ++ c) stack ≡ None)
    → (if b then taken a stack else None) ≡ None → (if b then taken (a ++ c) stack else None) ≡ None
none_one true a c stack more e = more e
none_one false a c stack more e = refl

none_append : (a c stack : List Kind) → taken a stack ≡ None → taken (a ++ c) stack ≡ None
none_append [] c stack e = absurd cc
none_append (kind ∷ a) c [] e = refl
none_append (kind ∷ a) c (top ∷ stack) e = none_one (same_kind kind top) a c stack (none_append a c stack) e

receiver_last : (parameters : List Kind) → reverse (kinds.Ref ∷ parameters) ≡ reverse parameters ++ kinds.Ref ∷ []
receiver_last parameters = reverse-append (kinds.Ref ∷ []) parameters

taken_receiver : (parameters stack rest : List Kind) → taken (reverse parameters) stack ≡ Some rest
    → taken (reverse (kinds.Ref ∷ parameters)) stack ≡ taken (kinds.Ref ∷ []) rest
taken_receiver parameters stack rest e =
    ap (λ (wanted : List Kind). taken wanted stack) (receiver_last parameters) ∙ taken_append (reverse parameters) (kinds.Ref ∷ []) stack rest e

pub receiver_taken : (b : Bool) (parameters stack rest now : List Kind) → taken (reverse parameters) stack ≡ Some rest → Takes b kinds.Ref rest now
    → Leaves b (taken (reverse (kinds.Ref ∷ parameters)) stack) now
receiver_taken true parameters stack rest now e takes = taken_receiver parameters stack rest e ∙ takes []
receiver_taken false parameters stack rest now e takes = taken_receiver parameters stack rest e ∙ takes []

pub no_parameters : (static : Bool) (parameters stack : List Kind) → taken (reverse parameters) stack ≡ None
    → taken (reverse (arguments_of static parameters)) stack ≡ None
no_parameters true parameters stack e = e
no_parameters false parameters stack e =
    ap (λ (wanted : List Kind). taken wanted stack) (receiver_last parameters) ∙ none_append (reverse parameters) (kinds.Ref ∷ []) stack e

under_one_slot : (cut : Option (Cut Kind)) → under_one is_wide cut ≡ put_under slots.One cut
under_one_slot None = refl
under_one_slot (Some cut) = refl

under_two_slots : (cut : Option (Cut Kind)) → under_two is_wide cut ≡ put_under slots.Two cut
under_two_slots None = refl
under_two_slots (Some cut) = refl

pub moved_under : (top below : SlotWidth) (stack : List Kind) → moved is_wide (move_view (moves.Under top below)) stack ≡ put_under below (cut_of top stack)
unfolding moved
moved_under slots.One slots.One stack = under_one_slot (one_slot is_wide stack)
moved_under slots.One slots.Two stack = under_two_slots (one_slot is_wide stack)
moved_under slots.Two slots.One stack = under_one_slot (two_slots is_wide stack)
moved_under slots.Two slots.Two stack = under_two_slots (two_slots is_wide stack)

-- ---- the slots of parameters that all have kinds

slots_at : (dims : ℕ) (of : Of) (kind : Kind) → type_kind (record { dims = dims; of = of }) ≡ Some kind → type_slots (record { dims = dims; of = of }) ≡ kind_slots kind
slots_at zero (ofs.Base bases.Boolean) kind e = let k : kinds.Int ≡ kind = cc in ap kind_slots k
slots_at zero (ofs.Base bases.Byte) kind e = let k : kinds.Int ≡ kind = cc in ap kind_slots k
slots_at zero (ofs.Base bases.Char) kind e = let k : kinds.Int ≡ kind = cc in ap kind_slots k
slots_at zero (ofs.Base bases.Short) kind e = let k : kinds.Int ≡ kind = cc in ap kind_slots k
slots_at zero (ofs.Base bases.Int) kind e = let k : kinds.Int ≡ kind = cc in ap kind_slots k
slots_at zero (ofs.Base bases.Long) kind e = let k : kinds.Long ≡ kind = cc in ap kind_slots k
slots_at zero (ofs.Base bases.Float) kind e = absurd cc
slots_at zero (ofs.Base bases.Double) kind e = absurd cc
slots_at zero (ofs.Class name) kind e = let k : kinds.Ref ≡ kind = cc in ap kind_slots k
slots_at (suc dims) (ofs.Base base) kind e = let k : kinds.Ref ≡ kind = cc in ap kind_slots k
slots_at (suc dims) (ofs.Class name) kind e = let k : kinds.Ref ≡ kind = cc in ap kind_slots k

with_one : (ty : Ty) (slots : ℕ) (kind : Option Kind) (others : Option (List Kind)) (parameters : List Kind)
    → ((k : Kind) → kind ≡ Some k → type_slots ty ≡ kind_slots k) → ((ks : List Kind) → others ≡ Some ks → slots ≡ depth ks)
    → with_kind kind others ≡ Some parameters → type_slots ty + slots ≡ depth parameters
with_one ty slots None others parameters one more e = absurd cc
with_one ty slots (Some kind) None parameters one more e = absurd cc
with_one ty slots (Some kind) (Some others) parameters one more e =
    let whole : kind ∷ others ≡ parameters = cc in
    subst (λ (ks : List Kind). type_slots ty + slots ≡ depth ks) whole (omega (arith, one kind refl, more others refl))

kinds_slots : (types : List Ty) (parameters : List Kind) → kinds_of types ≡ Some parameters → sum_by type_slots types ≡ depth parameters
kinds_slots [] parameters e = let none : [] ≡ parameters = cc in ap depth none
kinds_slots (ty ∷ types) parameters e =
    sum_by-cons type_slots ty types
    ∙ with_one ty (sum_by type_slots types) (type_kind ty) (kinds_of types) parameters (slots_at ty.dims ty.of) (kinds_slots types) e

with_slots : (types : List Ty) (result : Option Kind) (parameters : Option (List Kind)) (signature : Signature)
    → ((ks : List Kind) → parameters ≡ Some ks → sum_by type_slots types ≡ depth ks)
    → signature_with result parameters ≡ Some signature → sum_by type_slots types ≡ depth signature.parameters
with_slots types result None signature each e = absurd cc
with_slots types result (Some parameters) signature each e =
    let whole : record { parameters = parameters; result = result } ≡ signature = cc in
    each parameters refl ∙ ap (λ (s : Signature). depth s.parameters) whole

result_slots : (types : List Ty) (result : Option Kind) (signature : Signature) → signature_result result (kinds_of types) ≡ Some signature
    → sum_by type_slots types ≡ depth signature.parameters
result_slots types None signature e = absurd cc
result_slots types (Some kind) signature e = with_slots types (Some kind) (kinds_of types) signature (kinds_slots types) e

signature_slots : (desc : Desc) (signature : Signature) → call_signature desc ≡ Some signature → slots_of desc ≡ depth signature.parameters
signature_slots (descs.Field ty) signature e = absurd cc
signature_slots (descs.Method params None) signature e = with_slots params None (kinds_of params) signature (kinds_slots params) e
signature_slots (descs.Method params (Some ret)) signature e = result_slots params (type_kind ret) signature e

-- ---- the kinds after an instruction

getting : (code : Code) (k : Kinds) (result : Option Kind) (wanted : List Kind) (kind : Option Kind)
    → get_kind code k wanted kind ≡ performed result code k (got wanted kind)
getting code k result wanted None = refl
getting code k result wanted (Some kind) = refl

putting : (code : Code) (k : Kinds) (result : Option Kind) (wanted : List Kind) (kind : Option Kind)
    → put_kind code k wanted kind ≡ performed result code k (put wanted kind)
putting code k result wanted None = refl
putting code k result wanted (Some kind) = refl

plain_call : (code : Code) (k : Kinds) (static : Bool) (signature : Option Signature)
    → call_kinds code k (with_receiver static signature) ≡ called code k static None signature
plain_call code k static None = refl
plain_call code k true (Some signature) = refl
plain_call code k false (Some signature) = refl

counted_call : (code : Code) (k : Kinds) (count slots : ℕ) (signature : Option Signature) → ((s : Signature) → signature ≡ Some s → slots ≡ depth s.parameters)
    → (if nat_eq count (slots + 1) then call_kinds code k (with_receiver false signature) else None) ≡ called code k false (Some count) signature
counted_call code k count slots None each = elim (either (nat_eq count (slots + 1))) [ inl e ↦ rw e refl | inr e ↦ rw e refl ]
counted_call code k count slots (Some signature) each =
    ap (λ (n : ℕ). if nat_eq count (n + 1) then call_kinds code k (with_receiver false (Some signature)) else None) (each signature refl)

calling : (code : Code) (k : Kinds) (result : Option Kind) (mode : Mode) (desc : Desc)
    → (if counts mode desc then call_kinds code k (signature_of (is_static_mode mode) desc) else None) ≡ performed result code k (call_work mode (call_signature desc))
calling code k result Virtual desc = plain_call code k false (call_signature desc)
calling code k result Special desc = plain_call code k false (call_signature desc)
calling code k result Static desc = plain_call code k true (call_signature desc)
calling code k result (Interface count) desc = counted_call code k count (slots_of desc) (call_signature desc) (signature_slots desc)

pub after_work : (signature : Signature) (code : Code) (i : Instruction) (k : Kinds) → after signature code i k ≡ performed signature.result code k (work_of i)
unfolding after
after_work signature code Nop k = refl
after_work signature code (Push v) k = refl
after_work signature code (PushText units) k = refl
after_work signature code (Load kind slot) k = refl
after_work signature code (Store kind slot) k = refl
after_work signature code (Increment slot by) k = refl
after_work signature code (LoadElement access) k = refl
after_work signature code (StoreElement access) k = refl
after_work signature code (Move operation) k = refl
after_work signature code (Compute operation) k = refl
after_work signature code (Convert operation) k = refl
after_work signature code (Branch test target) k = refl
after_work signature code (Goto target) k = refl
after_work signature code (Switch pairs default) k = refl
after_work signature code (Return kind) k = refl
after_work signature code (GetStatic m) k = getting code k signature.result [] (field_kind m.desc)
after_work signature code (PutStatic m) k = putting code k signature.result [] (field_kind m.desc)
after_work signature code (GetField m) k = getting code k signature.result (kinds.Ref ∷ []) (field_kind m.desc)
after_work signature code (PutField m) k = putting code k signature.result (kinds.Ref ∷ []) (field_kind m.desc)
after_work signature code (Invoke mode m) k = calling code k signature.result mode m.desc
after_work signature code (New class) k = refl
after_work signature code (NewArray class element) k = refl
after_work signature code ArrayLength k = refl
after_work signature code Throw k = refl
after_work signature code (CheckCast class) k = refl
after_work signature code (InstanceOf class) k = refl
after_work signature code Monitor k = refl
after_work signature code (Other op named) k = refl

-- ---- where there is room as in the code

abbrev bare : Code → Code
bare code = record { max_stack = code.max_stack; max_locals = code.max_locals; instructions = []; ranges = []; frames = None }

leaving_bare : (code : Code) (locals : List (Option Kind)) (stack : Option (List Kind)) → leaving (bare code) locals stack ≡ leaving code locals stack
leaving_bare code locals None = refl
leaving_bare code locals (Some stack) = refl

store_bare : (code : Code) (kind : Kind) (slot : ℕ) (k : Option Kinds) → store_kind (bare code) kind slot k ≡ store_kind code kind slot k
store_bare code kind slot None = refl
store_bare code kind slot (Some k) = refl

gives_bare : (code : Code) (k : Kinds) (wanted : List Kind) (given : Option Kind) → gives (bare code) k wanted given ≡ gives code k wanted given
gives_bare code k wanted given = leaving_bare code k.locals (shapes.with_result given (taken wanted k.stack))

performed_bare : (result : Option Kind) (code : Code) (k : Kinds) (w : Work) → performed result (bare code) k w ≡ performed result code k w
performed_bare result code k (Gives wanted given) = gives_bare code k wanted given
performed_bare result code k (Loads kind slot) =
    ap (λ (left : Option Kinds). if is_kind kind (local_at k.locals slot) then left else None) (gives_bare code k [] (Some kind))
performed_bare result code k (Stores kind slot) =
    ap (store_kind (bare code) kind slot) (gives_bare code k (kind ∷ []) None) ∙ store_bare code kind slot (gives code k (kind ∷ []) None)
performed_bare result code k (Increments slot) =
    ap (λ (left : Option Kinds). if is_kind kinds.Int (local_at k.locals slot) then left else None) (gives_bare code k [] None)
performed_bare result code k (Moves operation) = leaving_bare code k.locals (moved is_wide operation k.stack)
performed_bare result code k (Returns kind) =
    ap (λ (left : Option Kinds). if same_result kind result then left else None) (gives_bare code k (result_list kind) None)
performed_bare result code k (Calls static count None) = refl
performed_bare result code k (Calls static count (Some signature)) =
    ap (λ (left : Option Kinds). if is_counted count signature.parameters then left else None)
    (gives_bare code k (reverse (arguments_of static signature.parameters)) signature.result)
performed_bare result code k Fails = refl

performed_room : (result : Option Kind) (s : Standing) (code : Code) (k : Kinds) (w : Work) → HasRoomOf s code
    → performed result (room s) k w ≡ performed result code k w
performed_room result s code k w h =
    ap (λ (n : ℕ). performed result (record { max_stack = n; max_locals = s.max_locals; instructions = []; ranges = []; frames = None }) k w) h.0
    ∙ ap (λ (n : ℕ). performed result (record { max_stack = code.max_stack; max_locals = n; instructions = []; ranges = []; frames = None }) k w) h.1
    ∙ performed_bare result code k w

-- ---- what is done is what the instruction does

pub done : (fits : Bool) (s : Standing) (now : Kinds) (returned : Option Kind) (w : Work) (signature : Signature) (code : Code) (i : Instruction)
    → w ≡ work_of i → GivesResult signature returned → HasRoomOf s code
    → Leaves fits (performed returned (room s) s.kinds w) now → Leaves fits (after signature code i s.kinds) now
done fits s now returned w signature code i is gives has left =
    let path : performed returned (room s) s.kinds w ≡ after signature code i s.kinds =
    ap (performed returned (room s) s.kinds) is
    ∙ performed_room returned s code s.kinds (work_of i) has
    ∙ ap (λ (result : Option Kind). performed result code s.kinds (work_of i)) gives
    ∙ sym (after_work signature code i s.kinds) in
    subst (λ (x : Option Kinds). Leaves fits x now) path left

pub ok_more : {A E : Type 0} (r : Result A E) (P Q : A → Type 0) → ((a : A) → P a → Q a) → IfOk r P → IfOk r Q
ok_more (Ok a) P Q more p = more a p
ok_more (Err e) P Q more p = tt
