-- What runs, as the readers of an image report it.
use Rattle.std.proofs.Common.{◌≡◌, ℕ, Bool, List, ◌∷◌, length, map, nat_eq, reverse, take, drop, Option, Some, true, refl, sym, ap, subst, ◌∙◌, Bor, None, Result, Ok, Err, IfOk, arith}
use Rattle.std.proofs.lemmas.Bool.Decides.{nat_tests}
use Rattle.std.proofs.lemmas.List.{length-map, length-reverse, length-take}
use Rattle.std.proofs.lemmas.Option.{same_Some}
use Rattle.dj_names.specs.declared.native.NativeId.{NativeId}
use Rattle.dj_names.specs.declared.descriptor.Desc.{Desc}
use Rattle.dj_names.specs.trusted.Types.{parameters_of}
use Rattle.dj_names.specs.trusted.Values.{value_kind}
use Rattle.dj_model.specs.trusted.Program.{Body, Abstract, Native, Runs, Code, is_static}
use Rattle.dj_model.specs.trusted.Shape.{is_static_mode}
use Rattle.dj_model.specs.trusted.Instructions.{Mode, Virtual, Special, Static, Interface}
use Rattle.dj_model.specs.trusted.Linking.{FoundMethod}
use Rattle.dj_program.specs.trusted.Codes.{code_in}
use Rattle.dj_program.specs.declared.code.MethodCode.{MethodCode}
use Rattle.dj_stack.specs.Frames.{StackFrame, top_operands}
use Rattle.dj_numbering.specs.Members.{IsMethodThere}
use Rattle.dj_numbering.specs.declared.types.MemberOf.{MemberOf}
use Rattle.dj_numbering.specs.declared.types.MethodId.{MethodId}
use Rattle.dj_image.specs.declared.image.Body.TheVariants as variants
use Rattle.dj_image.specs.Imaged.{Imaged, program_of, typed_of}
use Rattle.dj_image.specs.Codes.{SaysBody, IsBodyAt}
use Rattle.dj_invocation.specs.declared.answers.Invoked.{Invoked}
use Rattle.dj_invocation.specs.declared.answers.Invoked.TheVariants as invoked
use Rattle.dj_invocation.specs.declared.entering.Room.{Room}
use Rattle.dj_invocation.specs.Operands.{with_operands}
use Rattle.dj_invocation.specs.declared.choosing.Mode.TheVariants as modes
use Rattle.dj_invocation.specs.Choosing.{IsMethod, reported_mode}
use Rattle.dj_invocation.specs.Entering.{entered, EntersIfAllowed}
use Rattle.dj_invocation.specs.Natives.{AreClasses, AreNatives, AreTyped, row_at}
use Rattle.dj_invocation.specs.Invoking.{Site, Steps, Invokes, RunsBody, taken_kinds, taken_values}
use Rattle.dj_invocation.proofs.Sites.{calls_code}

same_body : (imaged : Imaged) (method : MethodId) (found other : FoundMethod) → IsMethod (program_of imaged) method found → IsMethod (program_of imaged) method other
    → found.method.body ≡ other.method.body
same_body imaged method found other there is = ap (λ (f : FoundMethod). f.method.body) (same_Some found other (sym there ∙ is))

pub abstract_body : (imaged : Imaged) (method : MethodId) (found : FoundMethod) → IsMethod (program_of imaged) method found → IsBodyAt imaged method.number variants.Abstract
    → found.method.body ≡ Abstract
abstract_body imaged method found there at = same_body imaged method found at.found there at.there ∙ by at.found.method.body at.says where
  by : (body : Body) → SaysBody imaged method.number body variants.Abstract → body ≡ Abstract
  by Abstract t = refl
  by (Native id) t = absurd t
  by (Runs own) t = absurd t

pub native_body : (imaged : Imaged) (method : MethodId) (found : FoundMethod) (id : NativeId) → IsMethod (program_of imaged) method found → IsBodyAt imaged method.number (variants.Native id)
    → found.method.body ≡ Native id
native_body imaged method found id there at = same_body imaged method found at.found there at.there ∙ by at.found.method.body at.says where
  by : (body : Body) → SaysBody imaged method.number body (variants.Native id) → body ≡ Native id
  by Abstract t = absurd t
  by (Native other) t = ap Native (sym t)
  by (Runs own) t = absurd t

pub record HasCode (found : FoundMethod) (reported : MethodCode) : Type 0 where
  pub code : Code
  pub runs : found.method.body ≡ Runs code
  pub locals : code.max_locals ≡ reported.max_locals
  pub stack : code.max_stack ≡ reported.max_stack

pub code_body : (imaged : Imaged) (method : MethodId) (found : FoundMethod) (code : Bor MethodCode) → IsMethod (program_of imaged) method found
    → IsBodyAt imaged method.number (variants.Code code) → HasCode found code.now
unfolding code_in
code_body imaged method found code there at = by at.found.method.body (same_body imaged method found at.found there at.there) at.says where
  by : (body : Body) → found.method.body ≡ body → SaysBody imaged method.number body (variants.Code code) → HasCode found code.now
  by Abstract e t = absurd t
  by (Native id) e t = absurd t
  by (Runs own) e t = record {
    code = own;
    runs = e;
    locals = ap (λ (c : Code). c.max_locals) t.2;
    stack = ap (λ (c : Code). c.max_stack) t.2;
  }

-- ---- frames

pub entered_steps : (method : MethodId) (code : MethodCode) (room : Room) (taken : ℕ) (old new : List StackFrame) → room.method ≡ method.number → room.max_locals ≡ code.max_locals
    → room.max_stack ≡ code.max_stack → EntersIfAllowed taken room old new true → Steps method code taken old new invoked.Entered
entered_steps method code room taken old new m l s e = (
  e.0,
  e.1 ∙ (λ i. entered (m i) (l i) (s i) (reverse (take taken (top_operands old))) ∷ with_operands (drop taken (top_operands old)) old),
)

pub stepped : (s : Site) (taken count : ℕ) (found : FoundMethod) (runs : RunsBody s taken count found) (method : MethodId) (code : Bor MethodCode) (new : List StackFrame) (reported : Invoked)
    → IsMethod (program_of s.imaged) method found → IsBodyAt s.imaged method.number (variants.Code code) → Steps method code.now taken s.frames new reported → Invokes s new (Some reported)
stepped s taken count found runs method code new reported there at steps = by reported steps where
  has : HasCode found code.now
  has = code_body s.imaged method found code there at

  by : (reported : Invoked) → Steps method code.now taken s.frames new reported → Invokes s new (Some reported)
  by invoked.Entered steps = record {
    calls = calls_code s taken count found runs method has.code there has.runs;
    few = steps.0;
    frames = steps.1 ∙ (λ i. entered method.number (sym has.locals i) (sym has.stack i) (reverse (take taken (top_operands s.frames))) ∷ with_operands (drop taken (top_operands s.frames)) s.frames);
  }
  by invoked.TooDeep steps = record { calls = calls_code s taken count found runs method has.code there has.runs; many = steps.0; frames = steps.1 }
  by (invoked.Native id n) steps = absurd steps
  by (invoked.Raise raised) steps = absurd steps
  by invoked.Link steps = absurd steps

-- ---- arguments of native methods

pub native_typed : (s : Site) (taken count : ℕ) (found : FoundMethod) (runs : RunsBody s taken count found) (method : MethodId) (id : NativeId) (rows : List (List (Option ℕ)))
    → AreNatives s.imaged rows → IsMethod (program_of s.imaged) method found → found.method.body ≡ Native id
    → AreTyped s.imaged (top_operands s.frames) count (row_at rows method.number) (parameters_of s.member.desc)
native_typed s taken count found runs method id rows are there body = record {
  kinds = runs.kinds;
  kinds_are = runs.kinds_are;
  count_is = runs.count_is;
  fits = runs.fits;
  classes_are = subst (λ (d : Desc). AreClasses (typed_of s.imaged) (parameters_of d) (row_at rows method.number)) runs.described (are method.number found id there body);
}

-- ---- results

pub ok_then : {A E : Type 0} (result : Result A E) (P Q : A → Type 0) → ((x : A) → P x → Q x) → IfOk result P → IfOk result Q
ok_then (Ok x) P Q more reported = more x reported
ok_then (Err e) P Q more reported = tt

pub none_of : (o : Option ℕ) → ((r : ℕ) → o ≡ Some r → ⊥) → o ≡ None
none_of None not = refl
none_of (Some r) not = absurd (not r refl)

pub static_mode : (mode : Mode) → reported_mode mode ≡ modes.Static → mode ≡ Static
static_mode Static e = refl
static_mode Virtual e = absurd cc
static_mode Special e = absurd cc
static_mode (Interface count) e = absurd cc

-- ---- static methods

pub called_so : (imaged : Imaged) (method : MethodId) (reported : MemberOf) (static : Bool) → IsMethodThere (typed_of imaged) method.number reported → is_static reported.flags ≡ static
    → (found : FoundMethod) → IsMethod (program_of imaged) method found → is_static found.method.flags ≡ static
called_so imaged method reported static there e found is =
    let same : there.found ≡ found = same_Some there.found found (sym there.there ∙ is) in
    ap (λ (f : FoundMethod). is_static f.method.flags) (sym same) ∙ (ap is_static (sym there.flags) ∙ e)

-- the receiver is one operand more
pub static_call : (s : Site) (taken count : ℕ) (found : FoundMethod) → RunsBody s taken count found → nat_eq taken count ≡ is_static_mode s.mode
static_call s taken count found runs = by s.mode runs.values where
  many : length (map value_kind (taken_values s taken)) ≡ taken
  many =
      let within = runs.within in
      let fewer = length-take taken (top_operands s.frames) in
      let reversed = length-reverse (take taken (top_operands s.frames)) in
      length-map (taken_values s taken) value_kind ∙ omega (arith, within, fewer, reversed)

  by : (mode : Mode) → map value_kind (taken_values s taken) ≡ taken_kinds mode runs.kinds → nat_eq taken count ≡ is_static_mode mode
  by Static e = let long = ap length e in let count_is = runs.count_is in let n = many in grind (arith, nat_tests, long, count_is, n)
  by Virtual e = let long = ap length e in let count_is = runs.count_is in let n = many in grind (arith, nat_tests, long, count_is, n)
  by Special e = let long = ap length e in let count_is = runs.count_is in let n = many in grind (arith, nat_tests, long, count_is, n)
  by (Interface k) e = let long = ap length e in let count_is = runs.count_is in let n = many in grind (arith, nat_tests, long, count_is, n)
