-- Straight sets: files are one program at most, whose methods are no initialisers and have code.
use Rattle.std.proofs.Common.{◌≡◌, ℕ, zero, suc, ◌+◌, ◌<◌, ◌≤◌, ◌^◌, ◌&&◌, Bool, true, false, cond, List, [], ◌∷◌, ◌++◌, length, map, get_or, All, Option, Some, None, refl, sym, ap, ap₂, ◌∙◌, subst, arith, codes}
use Rattle.std.specs.List.{AllByRecursion}
use Rattle.std.proofs.lemmas.List.{length-map}
use Rattle.std.proofs.lemmas.List.Elements.{All-from_recursion}
use Rattle.dj_edge.specs.trusted.Held.{File}
use Rattle.dj_ops.specs.declared.instruction.Instr.{Instr}
use Rattle.dj_straight.specs.trusted.Cuts.{AreInstructions}
use Rattle.dj_straight.proofs.Cuts.{one_cut_from}
use Rattle.dj_pool.specs.trusted.Pool.{Constant, text_at}
use Rattle.dj_class.specs.trusted.ClassFile.{AttributeInfo, MemberInfo, ClassFile, IsClassFile}
use Rattle.dj_class.specs.trusted.Code.{CodeInfo}
use Rattle.dj_class.proofs.CodeLaws.{one_code}
use Rattle.dj_pool.proofs.Decides.{tests_decide}
use Rattle.dj_class.proofs.ClassLaws.{one_class_file}
use Rattle.dj_straight.specs.trusted.Instructions.{instruction_of}
use Rattle.dj_straight.specs.trusted.Program.{Name, Program, Class, Method, Code, Runs, same_name, method_in, runs_static, initialiser_name, class_has_initialiser, has_initialiser}
use Rattle.dj_straight.specs.Program.{HasNoFields}
use Rattle.dj_straight.specs.declared.program.StraightMethod.{StraightMethod}
use Rattle.dj_straight.specs.declared.program.StraightClass.{StraightClass}
use Rattle.dj_straight.specs.trusted.Methods.{straight_descriptor, object_name}
use Rattle.dj_straight.specs.Methods.{action_view, code_view, method_view, class_view, program_view}
use Rattle.dj_straight.specs.trusted.Straight.{bodies_of, IsStraightCode, IsStraightBody, HasStraightCode, IsStraightMethod, AreStraightMethods, IsStraightClass, IsStraightFile, IsStraightSet}
use Rattle.dj_file_rules.specs.Views.{path_file_view}
use Rattle.dj_report.specs.declared.report.PathFile.{PathFile}
use Rattle.dj_file_rules.specs.trusted.Violations.{this_name}
use Rattle.dj_straight.specs.Running.{PushesNull, IsRunnable, AreRunnable}
use Rattle.dj_straight.proofs.PushedNulls.{all_push_null}

-- ---- one program at most

one_straight_code : (pool : List Constant) (info : CodeInfo) (x y : Code) → IsStraightCode pool info x → IsStraightCode pool info y → x ≡ y
one_straight_code pool info x y p q =
    let same : p.instrs ≡ q.instrs = one_cut_from info.code 0 p.instrs q.instrs p.cut q.cut in
    p.code_is
    ∙ ap (λ (instrs : List Instr). record { max_stack = info.max_stack; max_locals = info.max_locals; instructions = map instruction_of instrs; ranges = []; frames = Some [] }) same
    ∙ sym q.code_is

one_of_body : (pool : List Constant) (body : List ℕ) (x y : Code) → IsStraightBody pool body x → IsStraightBody pool body y → x ≡ y
one_of_body pool body x y p q =
    one_straight_code pool p.0 x y p.2 (subst (λ (info : CodeInfo). IsStraightCode pool info y) (one_code body q.0 p.0 q.1 p.1) q.2)

one_item : (a b : List ℕ) (xs : List (List ℕ)) → xs ≡ a ∷ [] → xs ≡ b ∷ [] → b ≡ a
one_item a b xs p q = cc

one_of_attributes : (pool : List Constant) (attributes : List AttributeInfo) (x y : Code) → HasStraightCode pool attributes x → HasStraightCode pool attributes y → x ≡ y
one_of_attributes pool attributes x y p q =
    one_of_body pool p.body x y p.straight
    (subst (λ (body : List ℕ). IsStraightBody pool body y) (one_item p.body q.body (bodies_of pool (codes "Code") attributes) p.one_code q.one_code) q.straight)

one_text : (a b : List ℕ) (o : Option (List ℕ)) → o ≡ Some a → o ≡ Some b → a ≡ b
one_text a b o p q = cc

one_method : (pool : List Constant) (m : MemberInfo) (x y : Method) → IsStraightMethod pool m x → IsStraightMethod pool m y → x ≡ y
one_method pool m x y p q =
    let names : x.name ≡ y.name = one_text x.name y.name (text_at pool m.name) p.plain.name_is q.plain.name_is in
    let same : p.code ≡ q.code = one_of_attributes pool m.attributes p.code q.code p.has_code q.has_code in
    p.method_is
    ∙ ap₂ (λ (name : List ℕ) (code : Code). record { flags = m.flags; name = name; desc = straight_descriptor; body = Runs code }) names same
    ∙ sym q.method_is

pub one_methods : (pool : List Constant) (ms : List MemberInfo) (xs ys : List Method) → AreStraightMethods pool ms xs → AreStraightMethods pool ms ys → xs ≡ ys
one_methods pool [] [] [] p q = refl
one_methods pool [] [] (y ∷ ys) p q = absurd q
one_methods pool [] (x ∷ xs) ys p q = absurd p
one_methods pool (m ∷ ms) [] ys p q = absurd p
one_methods pool (m ∷ ms) (x ∷ xs) [] p q = absurd q
one_methods pool (m ∷ ms) (x ∷ xs) (y ∷ ys) p q =
    ap₂ (λ (z : Method) (zs : List Method). z ∷ zs) (one_method pool m x y p.0 q.0) (one_methods pool ms xs ys p.1 q.1)

abbrev class_with : ClassFile → List Method → Class
class_with c methods = record { name = this_name c; flags = c.flags; superclass = Some object_name; interfaces = []; fields = []; methods = methods }

one_class : (c : ClassFile) (x y : Class) → IsStraightClass c x → IsStraightClass c y → x ≡ y
one_class c x y p q =
    p.class_is ∙ ap (class_with c) (one_methods c.pool c.methods x.methods y.methods p.methods.straight q.methods.straight) ∙ sym q.class_is

pub one_program : (files : List File) (p q : Program) → IsStraightSet files p → IsStraightSet files q → p ≡ q
one_program [] p q a b = a ∙ sym b
one_program (file ∷ []) p q (x, (c, is, straight), p-is) (y, (d, is2, straight2), q-is) =
    let same : d ≡ c = one_class_file tests_decide file.1 d c is2 is in
    p-is
    ∙ ap (λ (class : Class). class ∷ []) (one_class c x y straight (subst (λ (e : ClassFile). IsStraightClass e y) same straight2))
    ∙ sym q-is
one_program (file ∷ (other ∷ files)) p q a b = absurd a

-- ---- no initialisers

abbrev DescsAre : List ℕ → List Method → Type 0
DescsAre desc methods = AllByRecursion (λ m. m.desc ≡ desc) methods

and_false : (a b : Bool) → b ≡ false → (a && b) ≡ false
and_false true b e = e
and_false false b e = refl

none_in : (methods : List Method) (name : Name) → DescsAre straight_descriptor methods → method_in methods name (codes "()V") ≡ None
none_in [] name all = refl
none_in (m ∷ methods) name all =
    let other : same_name m.desc (codes "()V") ≡ false = ap (λ (d : List ℕ). same_name d (codes "()V")) all.0 in
    ap (λ (b : Bool). cond b (Some m) (method_in methods name (codes "()V"))) (and_false (same_name m.name name) (same_name m.desc (codes "()V")) other)
    ∙ none_in methods name all.1

descs_are : (pool : List Constant) (ms : List MemberInfo) (methods : List Method) → AreStraightMethods pool ms methods → DescsAre straight_descriptor methods
descs_are pool [] [] p = tt
descs_are pool [] (x ∷ xs) p = absurd p
descs_are pool (m ∷ ms) [] p = absurd p
descs_are pool (m ∷ ms) (x ∷ xs) p = (ap (λ (y : Method). y.desc) p.0.method_is, descs_are pool ms xs p.1)

no_initialiser_if : (b : Bool) (class : Class) → DescsAre straight_descriptor class.methods → class_has_initialiser (cond b (Some class) None) ≡ false
no_initialiser_if true class all = ap runs_static (none_in class.methods initialiser_name all)
no_initialiser_if false class all = refl

no_initialiser_in : (class : Class) (name : Name) → DescsAre straight_descriptor class.methods → has_initialiser (class ∷ []) name ≡ false
unfolding has_initialiser
no_initialiser_in class name all = no_initialiser_if (same_name class.name name) class all

no_initialiser_none : (name : Name) → has_initialiser [] name ≡ false
unfolding has_initialiser
no_initialiser_none name = refl

pub no_fields : (class : Option StraightClass) → HasNoFields (program_view class)
no_fields None = tt
no_fields (Some c) = (refl, tt)

pub no_initialisers : (files : List File) (p : Program) → IsStraightSet files p → (class : Name) → has_initialiser p class ≡ false
no_initialisers [] p is class = ap (λ (q : Program). has_initialiser q class) is ∙ no_initialiser_none class
no_initialisers (file ∷ []) p (x, (c, is, straight), p-is) class =
    ap (λ (q : Program). has_initialiser q class) p-is
    ∙ no_initialiser_in x class (descs_are c.pool c.methods x.methods straight.methods.straight)
no_initialisers (file ∷ (other ∷ files)) p is class = absurd is

-- ---- each method has code

few_instrs : (code : List ℕ) (at : ℕ) (instrs : List Instr) → AreInstructions code at instrs → at + length instrs ≤ length code
few_instrs code at [] p = omega (arith, p)
few_instrs code at (instr ∷ instrs) p = omega (arith, few_instrs code p.0 instrs p.2, p.1.stands.later)

some_instrs : (code : List ℕ) (instrs : List Instr) → AreInstructions code 0 instrs → 0 < length code → 0 < length instrs
some_instrs code [] p some = absurd (omega (arith, p, some))
some_instrs code (instr ∷ instrs) p some = omega arith

pub record HasSome (code : Code) : Type 0 where
  pub some : 0 < length code.instructions
  pub few : length code.instructions < 2 ^ 16
  pub nulls : AllByRecursion PushesNull code.instructions

pub has_some : (pool : List Constant) (attributes : List AttributeInfo) (code : Code) → HasStraightCode pool attributes code → HasSome code
has_some pool attributes code has =
    let info = has.straight.0 in
    let valid = has.straight.1.valid in
    let straight = has.straight.2 in
    let size : length code.instructions ≡ length straight.instrs = ap (λ (x : Code). length x.instructions) straight.code_is ∙ length-map straight.instrs instruction_of in
    let some : 0 < length straight.instrs = some_instrs info.code straight.instrs straight.cut valid.some_code in
    let few : 0 + length straight.instrs ≤ length info.code = few_instrs info.code 0 straight.instrs straight.cut in
    let short : length info.code < 65536 = valid.few_code in
    record {
      some = omega (arith, size, some);
      few = omega (arith, size, few, short);
      nulls = subst (λ (x : Code). AllByRecursion PushesNull x.instructions) (sym straight.code_is) (all_push_null straight.instrs);
    }

-- the model's code of a method
pub record RunsSome (method : Method) : Type 0 where
  pub code : Code
  pub runs : method.body ≡ Runs code
  pub has : HasSome code

all_run : (pool : List Constant) (ms : List MemberInfo) (methods : List Method) → AreStraightMethods pool ms methods → AllByRecursion RunsSome methods
all_run pool [] [] p = tt
all_run pool [] (x ∷ xs) p = absurd p
all_run pool (m ∷ ms) [] p = absurd p
all_run pool (m ∷ ms) (x ∷ xs) p = (
  record { code = p.0.code; runs = ap (λ (y : Method). y.body) p.0.method_is; has = has_some pool m.attributes p.0.code p.0.has_code },
  all_run pool ms xs p.1,
)

-- each method of a straight set runs code of at least one instruction, and of no more than 65,535
pub code_is_some : (files : List File) (p : Program) → IsStraightSet files p → AllByRecursion (λ (class : Class). AllByRecursion RunsSome class.methods) p
code_is_some [] p is = subst (AllByRecursion (λ (class : Class). AllByRecursion RunsSome class.methods)) (sym is) tt
code_is_some (file ∷ []) p (x, (c, is, straight), p-is) =
    subst (AllByRecursion (λ (class : Class). AllByRecursion RunsSome class.methods)) (sym p-is) (all_run c.pool c.methods x.methods straight.methods.straight, tt)
code_is_some (file ∷ (other ∷ files)) p is = absurd is

same_code : (x y : Code) → Runs x ≡ Runs y → x ≡ y
same_code x y e = cc

unmapped : {A B : Type 0} (f : A → B) (P : B → Type 0) (xs : List A) → AllByRecursion P (map f xs) → AllByRecursion (λ x. P (f x)) xs
unmapped f P [] all = tt
unmapped f P (x ∷ xs) all = (all.0, unmapped f P xs all.1)

runnable : (m : StraightMethod) → RunsSome (method_view m) → IsRunnable m
runnable m r =
    let size : length r.code.instructions ≡ length m.actions.items =
    ap (λ (x : Code). length x.instructions) (sym (same_code (code_view m) r.code r.runs)) ∙ length-map m.actions.items action_view in
    record {
      some = omega (arith, size, r.has.some, m.actions.ok.0);
      few = omega (arith, size, r.has.few, m.actions.ok.0);
      nulls = All-from_recursion (λ action. PushesNull (action_view action)) m.actions.items
          (unmapped action_view PushesNull m.actions.items
          (subst (λ (x : Code). AllByRecursion PushesNull x.instructions) (sym (same_code (code_view m) r.code r.runs)) r.has.nulls));
    }

all_runnable : (ms : List StraightMethod) → AllByRecursion RunsSome (map method_view ms) → AllByRecursion IsRunnable ms
all_runnable [] all = tt
all_runnable (m ∷ ms) all = (runnable m all.0, all_runnable ms all.1)

pub are_runnable : (files : List File) (found : Option StraightClass) → IsStraightSet files (program_view found) → AreRunnable found
are_runnable files None is = tt
are_runnable files (Some c) is =
    All-from_recursion IsRunnable c.methods.items (all_runnable c.methods.items (code_is_some files (class_view c ∷ []) is).0)

-- ---- methods in a row

pub straight_push : (pool : List Constant) (ms : List MemberInfo) (xs : List Method) (m : MemberInfo) (x : Method) → AreStraightMethods pool ms xs → IsStraightMethod pool m x
    → AreStraightMethods pool (ms ++ m ∷ []) (xs ++ x ∷ [])
straight_push pool [] [] m x p is = (is, tt)
straight_push pool [] (y ∷ ys) m x p is = absurd p
straight_push pool (n ∷ ms) [] m x p is = absurd p
straight_push pool (n ∷ ms) (y ∷ ys) m x p is = (p.0, straight_push pool ms ys m x p.1 is)

pub no_methods : (pool : List Constant) (ms : List MemberInfo) (i : ℕ) (d : MemberInfo) → i < length ms → ((x : Method) → IsStraightMethod pool (get_or ms i d) x → ⊥)
    → (xs : List Method) → AreStraightMethods pool ms xs → ⊥
no_methods pool [] i d within none xs p = absurd (omega arith)
no_methods pool (m ∷ ms) i d within none [] p = p
no_methods pool (m ∷ ms) zero d within none (x ∷ xs) p = none x p.0
no_methods pool (m ∷ ms) (suc i) d within none (x ∷ xs) p = no_methods pool ms i d (omega arith) none xs p.1

-- ---- one file

pub file_class : (bytes : List ℕ) (c : ClassFile) → IsClassFile bytes c
    → ((class : Class) → IsStraightClass c class → IsStraightFile bytes class) × ((class : Class) → IsStraightFile bytes class → IsStraightClass c class)
file_class bytes c is = (
  λ class straight. (c, is, straight),
  λ class file. subst (λ (d : ClassFile). IsStraightClass d class) (one_class_file tests_decide bytes file.0 c file.1 is) file.2,
)

pub file_runnable : (bytes : List ℕ) (class : StraightClass) → IsStraightFile bytes (class_view class) → All IsRunnable class.methods.items
file_runnable bytes class is = are_runnable (([], bytes) ∷ []) (Some class) (class_view class, is, refl)

pub no_set : (files : List PathFile) (d : PathFile) → 1 ≤ length files → length files ≤ 1 → ((class : Class) → IsStraightFile (get_or files 0 d).bytes.now class → ⊥)
    → (program : Program) → IsStraightSet (map path_file_view files) program → ⊥
no_set [] d some few none program is = absurd (omega (arith, some))
no_set (file ∷ []) d some few none program is = none is.0 is.1
no_set (file ∷ (other ∷ files)) d some few none program is = is
