-- Native methods answer values of the kinds of their descriptors.
use Rattle.std.proofs.Common.{◌≡◌, ℕ, ◌+◌, ◌&&◌, Bool, ℤ, pos, negsuc, List, [], ◌∷◌, ◌++◌, length, map, Option, Some, None, nat_eq, nat_le, refl, sym, subst, IsFalse}
use Rattle.std.specs.Option.{option_map}
use Rattle.std.specs.Prelude.{⊤, slice_get}
use Rattle.dj_names.specs.declared.descriptor.Kind.{Kind}
use Rattle.dj_names.specs.declared.descriptor.Kind.TheVariants as kinds
use Rattle.dj_names.specs.declared.descriptor.Ty.{Ty}
use Rattle.dj_names.specs.declared.run.Value.{Value}
use Rattle.dj_names.specs.declared.run.Value.TheVariants as values
use Rattle.dj_names.specs.declared.run.Raised.{Raised}
use Rattle.dj_names.specs.declared.run.Charge.{Charge}
use Rattle.dj_names.specs.declared.run.Charge.TheVariants as charges
use Rattle.dj_names.specs.declared.native.NativeId.{NativeId}
use Rattle.dj_names.specs.declared.native.NativeId.TheVariants as natives
use Rattle.dj_names.specs.trusted.Values.{value_kind}
use Rattle.dj_names.specs.trusted.Heaps.{Object, object_at, object_size, same_element}
use Rattle.dj_model.specs.trusted.Types.{Prefix, is_stop}
use Rattle.dj_model.specs.trusted.Instructions.{Instruction, ends}
use Rattle.dj_model.specs.trusted.Program.{Program, Code}
use Rattle.dj_model.specs.trusted.Linking.{option_list}
use Rattle.dj_model.specs.trusted.State.{Terms, Counting, Uncounted, Metered, Accounted, Part, Flow, Goes, Catch, Stop, Call, End, Effect}
use Rattle.dj_model.specs.trusted.Arrays.{passes_limit}
use Rattle.dj_model.specs.trusted.Charging.{Charged, Fine, Over, charge_one}
use Rattle.dj_model.specs.trusted.Natives.{Answer, Returns, Raises, MakesText, KeepsText, MakesChars, SetsFields, SetsElements, Adds, Rethrows, Seen, Elements, reference, number, unit_answer, unit_at, part_between, joined_text, compared_text, builder_units, unless_null, copy_within, copy_between, answer, host_answer}
use Rattle.dj_model.specs.NativeKinds.{native_signature}
use Rattle.dj_model.specs.trusted.Performing.{class_at_number, Counted, Within, Halts, ended_by, thrown_by, counted, Making, Made, NotMade, making_then, made_charged, text_object, chars_object, with_fields_in, with_elements_in, set_object, set_fields, set_elements, raises_after, returns_made, keeps_made, goes_on, perform}
use Rattle.dj_model.specs.trusted.Kinds.{Signature, Kinds}
use Rattle.dj_model.specs.Standing.{LocalsHave, Leaves, Keeps, with_given, IsSoundFlow, AnswerKind}
use Rattle.dj_model.proofs.Flows.{either_way}

null_kind : (result : Option Kind) (r : ℕ) (a : Answer) → AnswerKind result a → AnswerKind result (unless_null r a)
null_kind result r a k = either_way (AnswerKind result) (nat_eq r 0) _ a tt k

unit_answer_kind : (unit : Option ℕ) → AnswerKind (Some kinds.Int) (unit_answer unit)
unit_answer_kind None = tt
unit_answer_kind (Some unit) = refl

unit_kind : (units : List ℕ) (i : ℤ) → AnswerKind (Some kinds.Int) (unit_at units i)
unit_kind units (pos i) = unit_answer_kind (slice_get units i)
unit_kind units (negsuc i) = tt

part_kind : (units : List ℕ) (from to : ℤ) → AnswerKind (Some kinds.Ref) (part_between units from to)
part_kind units (pos from) (pos to) = either_way (AnswerKind (Some kinds.Ref)) (nat_le from to && nat_le to (length units)) _ _ refl tt
part_kind units (pos from) (negsuc to) = tt
part_kind units (negsuc from) to = tt

joined_kind : (r : ℕ) (units more : List ℕ) → AnswerKind (Some kinds.Ref) (joined_text r units more)
joined_kind r units [] = refl
joined_kind r units (more ∷ others) = refl

compare_kind : (heap : Seen) (r other : ℕ) → AnswerKind (Some kinds.Int) (compared_text heap r other)
compare_kind heap r other = either_way (AnswerKind (Some kinds.Int)) (nat_eq other 0) _ _ tt (either_way (AnswerKind (Some kinds.Int)) (heap.is_text other) _ _ refl tt)

within_kind : (takes : ℕ → Bool) (target : ℕ) (a b : Elements) (from to count : ℤ) → AnswerKind None (copy_within takes target a b from to count)
within_kind takes target a b (pos from) (pos to) (pos count) =
    either_way (AnswerKind None) (nat_le (from + count) (length a.contents) && nat_le (to + count) (length b.contents)) _ _ refl tt
within_kind takes target a b (pos from) (pos to) (negsuc count) = tt
within_kind takes target a b (pos from) (negsuc to) count = tt
within_kind takes target a b (negsuc from) to count = tt

between_kind : (takes : ℕ → Bool) (target : ℕ) (a b : Option Elements) (from to count : ℤ) → AnswerKind None (copy_between takes target a b from to count)
between_kind takes target (Some a) (Some b) from to count =
    either_way (AnswerKind None) (same_element a.element b.element) _ _ (within_kind takes target a b from to count) tt
between_kind takes target (Some a) None from to count = tt
between_kind takes target None b from to count = tt

pub answer_kind : (id : NativeId) (heap : Seen) (args : List Value) → AnswerKind (native_signature id).result (answer id heap args)
unfolding answer native_signature
answer_kind natives.ObjectNew heap args = refl
answer_kind natives.ObjectEquals heap args = refl
answer_kind natives.ObjectHashCode heap args = refl
answer_kind natives.ObjectToString heap args = refl
answer_kind natives.StringLength heap args = refl
answer_kind natives.StringIsEmpty heap args = refl
answer_kind natives.StringToString heap args = refl
answer_kind natives.StringCharAt heap args = unit_kind (heap.units (reference 0 args)) (number 1 args)
answer_kind natives.StringEquals heap args = refl
answer_kind natives.StringHashCode heap args = refl
answer_kind natives.StringCompareTo heap args = compare_kind heap (reference 0 args) (reference 1 args)
answer_kind natives.StringCompareToObject heap args = compare_kind heap (reference 0 args) (reference 1 args)
answer_kind natives.StringStartsWith heap args = null_kind (Some kinds.Int) (reference 1 args) _ refl
answer_kind natives.StringConcat heap args = null_kind (Some kinds.Ref) (reference 1 args) _ (joined_kind (reference 0 args) (heap.units (reference 0 args)) (heap.units (reference 1 args)))
answer_kind natives.StringSubstringFrom heap args = part_kind (heap.units (reference 0 args)) (number 1 args) (pos (length (heap.units (reference 0 args))))
answer_kind natives.StringSubstring heap args = part_kind (heap.units (reference 0 args)) (number 1 args) (number 2 args)
answer_kind natives.StringToCharArray heap args = refl
answer_kind natives.StringValueOfChars heap args = null_kind (Some kinds.Ref) (reference 0 args) _ refl
answer_kind natives.StringValueOfChar heap args = refl
answer_kind natives.StringValueOfInt heap args = refl
answer_kind natives.StringValueOfLong heap args = refl
answer_kind natives.StringValueOfBoolean heap args = refl
answer_kind natives.BuilderNew heap args = refl
answer_kind natives.BuilderNewText heap args = null_kind None (reference 1 args) _ refl
answer_kind natives.BuilderAppendText heap args = refl
answer_kind natives.BuilderAppendChar heap args = refl
answer_kind natives.BuilderAppendInt heap args = refl
answer_kind natives.BuilderAppendLong heap args = refl
answer_kind natives.BuilderAppendBoolean heap args = refl
answer_kind natives.BuilderLength heap args = refl
answer_kind natives.BuilderCharAt heap args = unit_kind (builder_units heap (reference 0 args)) (number 1 args)
answer_kind natives.BuilderToString heap args = refl
answer_kind natives.ThrowableNew heap args = refl
answer_kind natives.ThrowableNewMessage heap args = refl
answer_kind natives.ThrowableNewCause heap args = refl
answer_kind natives.GetMessage heap args = refl
answer_kind natives.GetCause heap args = refl
answer_kind natives.AbsInt heap args = refl
answer_kind natives.AbsLong heap args = refl
answer_kind natives.MaxInts heap args = refl
answer_kind natives.MaxLongs heap args = refl
answer_kind natives.MinInts heap args = refl
answer_kind natives.MinLongs heap args = refl
answer_kind natives.IdentityHashCode heap args = refl
answer_kind natives.ArrayCopy heap args = null_kind None (reference 0 args) _ (null_kind None (reference 2 args) _ (between_kind (heap.takes (reference 2 args)) (reference 2 args) (heap.elements (reference 0 args)) (heap.elements (reference 2 args)) (number 1 args) (number 3 args) (number 4 args)))
answer_kind natives.HostHashCode heap args = refl
answer_kind natives.HostToString heap args = refl
answer_kind natives.HostIdentityHashCode heap args = refl
answer_kind natives.NanoTime heap args = refl
answer_kind natives.CurrentTimeMillis heap args = refl
answer_kind natives.RecordJump heap args = refl
answer_kind natives.RecordInvocation heap args = refl
answer_kind natives.RecordThrow heap args = refl
answer_kind natives.RecordAllocation heap args = refl
answer_kind natives.RecordArray heap args = refl
answer_kind natives.CheckCatch heap args = refl

-- those that the host answers
abbrev pub IsHosted : NativeId → Type 0
IsHosted natives.HostHashCode = ⊤
IsHosted natives.HostToString = ⊤
IsHosted natives.HostIdentityHashCode = ⊤
IsHosted natives.NanoTime = ⊤
IsHosted natives.CurrentTimeMillis = ⊤
IsHosted id = ⊥

pub host_kind : (id : NativeId) (heap : Seen) (z : ℤ) (args : List Value) → IsHosted id → AnswerKind (native_signature id).result (host_answer id heap z args)
unfolding host_answer native_signature
host_kind natives.ObjectNew heap z args h = absurd h
host_kind natives.ObjectEquals heap z args h = absurd h
host_kind natives.ObjectHashCode heap z args h = absurd h
host_kind natives.ObjectToString heap z args h = absurd h
host_kind natives.StringLength heap z args h = absurd h
host_kind natives.StringIsEmpty heap z args h = absurd h
host_kind natives.StringToString heap z args h = absurd h
host_kind natives.StringCharAt heap z args h = absurd h
host_kind natives.StringEquals heap z args h = absurd h
host_kind natives.StringHashCode heap z args h = absurd h
host_kind natives.StringCompareTo heap z args h = absurd h
host_kind natives.StringCompareToObject heap z args h = absurd h
host_kind natives.StringStartsWith heap z args h = absurd h
host_kind natives.StringConcat heap z args h = absurd h
host_kind natives.StringSubstringFrom heap z args h = absurd h
host_kind natives.StringSubstring heap z args h = absurd h
host_kind natives.StringToCharArray heap z args h = absurd h
host_kind natives.StringValueOfChars heap z args h = absurd h
host_kind natives.StringValueOfChar heap z args h = absurd h
host_kind natives.StringValueOfInt heap z args h = absurd h
host_kind natives.StringValueOfLong heap z args h = absurd h
host_kind natives.StringValueOfBoolean heap z args h = absurd h
host_kind natives.BuilderNew heap z args h = absurd h
host_kind natives.BuilderNewText heap z args h = absurd h
host_kind natives.BuilderAppendText heap z args h = absurd h
host_kind natives.BuilderAppendChar heap z args h = absurd h
host_kind natives.BuilderAppendInt heap z args h = absurd h
host_kind natives.BuilderAppendLong heap z args h = absurd h
host_kind natives.BuilderAppendBoolean heap z args h = absurd h
host_kind natives.BuilderLength heap z args h = absurd h
host_kind natives.BuilderCharAt heap z args h = absurd h
host_kind natives.BuilderToString heap z args h = absurd h
host_kind natives.ThrowableNew heap z args h = absurd h
host_kind natives.ThrowableNewMessage heap z args h = absurd h
host_kind natives.ThrowableNewCause heap z args h = absurd h
host_kind natives.GetMessage heap z args h = absurd h
host_kind natives.GetCause heap z args h = absurd h
host_kind natives.AbsInt heap z args h = absurd h
host_kind natives.AbsLong heap z args h = absurd h
host_kind natives.MaxInts heap z args h = absurd h
host_kind natives.MaxLongs heap z args h = absurd h
host_kind natives.MinInts heap z args h = absurd h
host_kind natives.MinLongs heap z args h = absurd h
host_kind natives.IdentityHashCode heap z args h = absurd h
host_kind natives.ArrayCopy heap z args h = absurd h
host_kind natives.HostHashCode heap z args h = refl
host_kind natives.HostToString heap z args h = refl
host_kind natives.HostIdentityHashCode heap z args h = refl
host_kind natives.NanoTime heap z args h = refl
host_kind natives.CurrentTimeMillis heap z args h = refl
host_kind natives.RecordJump heap z args h = absurd h
host_kind natives.RecordInvocation heap z args h = absurd h
host_kind natives.RecordThrow heap z args h = absurd h
host_kind natives.RecordAllocation heap z args h = absurd h
host_kind natives.RecordArray heap z args h = absurd h
host_kind natives.CheckCatch heap z args h = absurd h

-- ---- what is performed

-- local variables and operands stay
record Same (x y : Part) : Type 0 where
  locals : y.locals ≡ x.locals
  operands : y.operands ≡ x.operands

abbrev IsHalt : Flow → Type 0
IsHalt Stop = ⊤
IsHalt (End outcome) = ⊤
IsHalt (Goes way) = ⊥
IsHalt (Catch exception) = ⊥
IsHalt (Call m arguments) = ⊥

abbrev HaltsSame : Part → Effect → Type 0
HaltsSame x e = (e.part.locals ≡ x.locals) × IsHalt e.flow

abbrev CountedSame : Part → Counted → Type 0
CountedSame x (Within y) = Same x y
CountedSame x (Halts e) = HaltsSame x e

abbrev MakingSame : Part → Making → Type 0
MakingSame x (Made y r) = Same x y
MakingSame x (NotMade e) = HaltsSame x e

ended_same : (x : Part) (c : Charged) → CountedSame x (ended_by x c)
ended_same x (Fine account) = record { locals = refl; operands = refl }
ended_same x (Over charge account) = (refl, tt)

thrown_same : (x : Part) (c : Charged) → CountedSame x (thrown_by x c)
thrown_same x (Fine account) = record { locals = refl; operands = refl }
thrown_same x (Over charge account) = (refl, tt)

counted_same : (counting : Counting) (x : Part) (charge : Charge) (n : ℕ) → CountedSame x (counted counting x charge n)
counted_same Uncounted x charge n = record { locals = refl; operands = refl }
counted_same (Metered most) x charge n = ended_same x (charge_one most x.account charge n)
counted_same (Accounted most) x charge n = thrown_same x (charge_one most x.account charge n)

making_then_same : (limit : Option ℕ) (x : Part) (o : Object Ty) (c : Counted) → CountedSame x c → MakingSame x (making_then limit o c)
making_then_same limit x o (Within y) k = either_way (MakingSame x) (passes_limit limit (y.heap.used + object_size o)) _ _ (k.locals, tt)
    (record { locals = k.locals; operands = k.operands })
making_then_same limit x o (Halts e) k = k

made_same : (terms : Terms) (x : Part) (o : Object Ty) → MakingSame x (made_charged terms x o)
made_same terms x o = making_then_same terms.limit x o (counted terms.counting x charges.Alloc (object_size o)) (counted_same terms.counting x charges.Alloc (object_size o))

set_same : (x : Part) (r : ℕ) (o : Option (Object Ty)) → Same x (set_object x r o)
set_same x r None = record { locals = refl; operands = refl }
set_same x r (Some o) = record { locals = refl; operands = refl }

module _ (program : Program) (signature : Signature) (code : Code) (i : Instruction) (k left : Kinds) (result : Option Kind) (goes : IsFalse (ends i)) (same : k.locals ≡ left.locals) where
  -- the arguments are taken, and the result is to be pushed
  pub record Before (x : Part) : Type 0 where
    pub locals : LocalsHave x.locals k.locals
    pub room : length x.locals ≡ code.max_locals
    pub stack : with_given result (map value_kind x.operands) ≡ left.stack

  abbrev pub SoundEffect : Effect → Type 0
  SoundEffect e = IsSoundFlow program signature code i k left e.part e.flow

  moved_before : (x y : Part) → Same x y → Before x → Before y
  moved_before x y s b = record {
    locals = subst (λ l. LocalsHave l k.locals) (sym s.locals) b.locals;
    room = subst (λ (l : List (Option Value)). length l ≡ code.max_locals) (sym s.locals) b.room;
    stack = subst (λ (o : List Value). with_given result (map value_kind o) ≡ left.stack) (sym s.operands) b.stack;
  }

  pub keeps_before : (x : Part) → Before x → Keeps code k x.locals
  keeps_before x b = record { kinds = b.locals; room = b.room }

  leaves_before : (x : Part) (operands : List Value) → Before x → map value_kind operands ≡ left.stack → Leaves code left x.locals operands
  leaves_before x operands b stack = record { kinds = record { locals = subst (LocalsHave x.locals) same b.locals; operands = stack }; room = b.room }

  halts_sound : (x : Part) (e : Effect) → Before x → HaltsSame x e → SoundEffect e
  halts_sound x e b h = go e.flow h.1 where
    go : (flow : Flow) → IsHalt flow → IsSoundFlow program signature code i k left e.part flow
    go Stop halt = record { kinds = subst (λ l. LocalsHave l k.locals) (sym h.0) b.locals; room = subst (λ (l : List (Option Value)). length l ≡ code.max_locals) (sym h.0) b.room }
    go (End outcome) halt = tt
    go (Goes way) halt = absurd halt
    go (Catch exception) halt = absurd halt
    go (Call m arguments) halt = absurd halt

  returns_sound : (x : Part) (v : Option Value) → Before x → option_map value_kind v ≡ result → Leaves code left x.locals (option_list v ++ x.operands) × IsFalse (ends i)
  returns_sound x None b e = (leaves_before x x.operands b (subst (λ r. with_given r (map value_kind x.operands) ≡ left.stack) (sym e) b.stack), goes)
  returns_sound x (Some v) b e = (leaves_before x (v ∷ x.operands) b (subst (λ r. with_given r (map value_kind x.operands) ≡ left.stack) (sym e) b.stack), goes)

  made_sound : (x : Part) (m : Making) → Before x → MakingSame x m → Some kinds.Ref ≡ result → SoundEffect (returns_made m)
  made_sound x (Made y r) b s e = returns_sound y (Some (values.Ref r)) (moved_before x y s b) e
  made_sound x (NotMade e) b s is = halts_sound x e b s

  kept_sound : (x : Part) (object : ℕ) (m : Making) → Before x → MakingSame x m → Some kinds.Ref ≡ result → SoundEffect (keeps_made object m)
  kept_sound x object (Made y r) b s e =
      let z : Part = set_fields y object (values.Ref r ∷ []) in
      returns_sound z (Some (values.Ref object)) (moved_before y z (set_same y object (with_fields_in (object_at y.heap.objects object) (values.Ref r ∷ []))) (moved_before x y s b)) e
  kept_sound x object (NotMade e) b s is = halts_sound x e b s

  raised_sound : (x : Part) (raised : Option Raised) → Before x → None ≡ result → SoundEffect (raises_after x raised)
  raised_sound x None b e = returns_sound x None b e
  raised_sound x (Some raised) b e = keeps_before x b

  counted_sound : (x : Part) (c : Counted) → Before x → CountedSame x c → None ≡ result → SoundEffect (goes_on c)
  counted_sound x (Within y) b s e = returns_sound y None (moved_before x y s b) e
  counted_sound x (Halts e) b s is = halts_sound x e b s

  pub perform_sound : (prefix : Prefix) (terms : Terms) (x : Part) (a : Answer) → Before x → AnswerKind result a → SoundEffect (perform prefix terms x a)
  unfolding perform
  perform_sound prefix terms x (Returns v) b e = returns_sound x v b e
  perform_sound prefix terms x (Raises raised) b e = keeps_before x b
  perform_sound prefix terms x (MakesText units) b e = made_sound x (made_charged terms x (text_object prefix units)) b (made_same terms x (text_object prefix units)) e
  perform_sound prefix terms x (KeepsText object units) b e = kept_sound x object (made_charged terms x (text_object prefix units)) b (made_same terms x (text_object prefix units)) e
  perform_sound prefix terms x (MakesChars units) b e = made_sound x (made_charged terms x (chars_object units)) b (made_same terms x (chars_object units)) e
  perform_sound prefix terms x (SetsFields object vs) b e =
      let y : Part = set_fields x object vs in returns_sound y None (moved_before x y (set_same x object (with_fields_in (object_at x.heap.objects object) vs)) b) e
  perform_sound prefix terms x (SetsElements array contents raised) b e =
      let y : Part = set_elements x array contents in raised_sound y raised (moved_before x y (set_same x array (with_elements_in (object_at x.heap.objects array) contents)) b) e
  perform_sound prefix terms x (Adds charge n) b e = counted_sound x (counted terms.counting x charge n) b (counted_same terms.counting x charge n) e
  perform_sound prefix terms x (Rethrows object) b e = either_way (λ (flow : Flow). IsSoundFlow program signature code i k left x flow) (is_stop prefix (class_at_number x.heap object)) _ _
      (keeps_before x b) (returns_sound x None b e)
