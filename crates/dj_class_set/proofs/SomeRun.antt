-- Runs of straight sets: the lines of their rules, and the end of a run where there are none.
use Rattle.std.proofs.Common.{◌≡◌, ℕ, ◌*◌, ◌<◌, ◌&&◌, ◌⊎◌, Bool, true, false, List, [], ◌∷◌, ◌++◌, length, Option, Some, Contains, refl, sym, ap, ◌∙◌, subst, inl, inr, codes}
use Rattle.std.specs.List.{AllByRecursion}
use Rattle.dj_edge.specs.trusted.Held.{File}
use Rattle.dj_names.specs.declared.run.Outcome.{Outcome}
use Rattle.dj_names.specs.declared.run.Costs.{Costs}
use Rattle.dj_names.specs.declared.run.Thresholds.{Thresholds}
use Rattle.dj_pool.specs.trusted.Pool.{Constant}
use Rattle.dj_class.specs.trusted.ClassFile.{MemberInfo}
use Rattle.dj_straight.specs.trusted.Program.{Name, Program, Class, Method, Code, Body, Abstract, Runs, same_name, method_in, body_code, code_in, code_of, runs_static}
use Rattle.dj_straight.specs.Program.{HasNoFields}
use Rattle.dj_straight.specs.trusted.FrameKinds.{Signature}
use Rattle.dj_straight.specs.trusted.Shape.{IsShapeFault}
use Rattle.dj_straight.specs.Shape.{HasShape}
use Rattle.dj_straight.specs.trusted.Metered.{RunsTo}
use Rattle.dj_straight.specs.Laws.{IsStraightEntry}
use Rattle.dj_straight.proofs.Shapes.{one_shape_fault, shape_or_fault as some_shape_or_fault}
use Rattle.dj_straight.proofs.Runs.{straight_code_ends}
use Rattle.dj_report.specs.declared.report.Violation.{Violation}
use Rattle.dj_report.proofs.Sorted.{contains_none, contains_first, contains_later}
use Rattle.dj_report.specs.trusted.Lines.{file_line}
use Rattle.dj_straight.specs.trusted.Methods.{straight_descriptor, straight_signature}
use Rattle.dj_straight.specs.trusted.Straight.{IsStraightMethod, AreStraightMethods, IsStraightSet}
use Rattle.dj_class_set.specs.trusted.Entry.{entry_method, has_entry, IsShapeLine, IsShapeLineOf, IsEntryLine, AreRunViolations}
use Rattle.dj_class_set.specs.Shaped.{shape_line}
use Rattle.dj_straight.proofs.Straights.{has_some, no_initialisers}
use Rattle.dj_class_set.proofs.RunRules.{entry_is_there}
use Rattle.dj_class_set.proofs.Classical.{NotNot, bind, so, decide, IsFinite, finite_same, finite_none, finite_one, finite_if, finite_either, finite_among}
use Rattle.dj_class_set.proofs.InsertedLines.{finite_in_order}

-- ---- the lines of a run's rules

-- a line of this method
record IsLineOfMethod (path : List ℕ) (m : Method) (v : Violation) : Type 0 where
  code : Code
  runs : m.body ≡ Runs code
  number : Option ℕ
  fault : IsShapeFault straight_signature code number
  line : v ≡ shape_line path m number

same_code : (x y : Code) → Runs x ≡ Runs y → x ≡ y
same_code x y e = cc

no_code : (code : Code) → Abstract ≡ Runs code → ⊥
no_code code e = absurd cc

lines_of_body : (path : List ℕ) (m : Method) (body : Body) → m.body ≡ body → IsFinite (IsLineOfMethod path m)
lines_of_body path m Abstract e = finite_none (IsLineOfMethod path m) (λ v is. no_code is.code (sym e ∙ is.runs))
lines_of_body path m (Runs code) e = bind (decide ((number : Option ℕ) × IsShapeFault straight_signature code number)) (elim [
  | inl (number, fault) ↦ finite_same (λ v. v ≡ shape_line path m number) (IsLineOfMethod path m)
      (λ v is. record { code = code; runs = e; number = number; fault = fault; line = is })
      (λ v is.
      let its : IsShapeFault straight_signature code is.number = subst (λ (x : Code). IsShapeFault straight_signature x is.number) (same_code is.code code (sym is.runs ∙ e)) is.fault in
      is.line ∙ ap (shape_line path m) (one_shape_fault straight_signature code is.number number its fault))
      (finite_one (shape_line path m number))
  | inr not ↦ finite_none (IsLineOfMethod path m)
      (λ v is. not (is.number, subst (λ (x : Code). IsShapeFault straight_signature x is.number) (same_code is.code code (sym is.runs ∙ e)) is.fault))
])

lines_of_methods : (path : List ℕ) (methods : List Method) → IsFinite (IsShapeLine path methods)
lines_of_methods path methods =
    finite_same (λ v. (m : Method) × Contains methods m × IsLineOfMethod path m v) (IsShapeLine path methods)
    (λ v p. record { method = p.0; own = p.1; code = p.2.code; runs = p.2.runs; number = p.2.number; fault = p.2.fault; line = p.2.line })
    (λ v is. (is.method, is.own, record { code = is.code; runs = is.runs; number = is.number; fault = is.fault; line = is.line }))
    (finite_among (IsLineOfMethod path) methods (λ m. lines_of_body path m m.body refl))

shape_lines : (files : List File) (program : Program) → IsFinite (IsShapeLineOf files program)
shape_lines [] [] = finite_none (IsShapeLineOf [] []) (λ v is. is)
shape_lines [] (class ∷ classes) = finite_none (IsShapeLineOf [] (class ∷ classes)) (λ v is. is)
shape_lines (file ∷ files) [] = finite_none (IsShapeLineOf (file ∷ files) []) (λ v is. is)
shape_lines (file ∷ files) (class ∷ classes) =
    finite_either (IsShapeLine file.0 class.methods) (IsShapeLineOf files classes) (lines_of_methods file.0 class.methods) (shape_lines files classes)

pub some_run_violations : (files : List File) (program : Program) (class : List ℕ) → NotNot ((violations : List Violation) × AreRunViolations files program class violations)
some_run_violations files program class =
    finite_in_order (λ v. IsShapeLineOf files program v ⊎ IsEntryLine program class v)
    (finite_either (IsShapeLineOf files program) (IsEntryLine program class) (shape_lines files program)
    (finite_if (has_entry program class ≡ false) (file_line (class ++ codes ".class") 20)))

-- ---- shape

-- code has shape, or there is a fault to be reported
shape_or_fault : (signature : Signature) (code : Code) → NotNot (HasShape signature code ⊎ ((n : Option ℕ) × IsShapeFault signature code n))
shape_or_fault signature code none = some_shape_or_fault signature code (λ shape. none (inl shape)) (λ n fault. none (inr (n, fault)))

-- ---- methods of a straight set

-- the method runs some instructions, without handlers and without a stack map
record RunsStraight (method : Method) : Type 0 where
  code : Code
  runs : method.body ≡ Runs code
  some : 0 < length code.instructions
  no_handlers : code.ranges ≡ []
  no_frames : code.frames ≡ Some []

runs_straight : (pool : List Constant) (m : MemberInfo) (method : Method) → IsStraightMethod pool m method → RunsStraight method
runs_straight pool m method is =
    let straight = is.has_code.straight.2 in
    record {
      code = is.code;
      runs = ap (λ (x : Method). x.body) is.method_is;
      some = (has_some pool m.attributes is.code is.has_code).some;
      no_handlers = ap (λ (x : Code). x.ranges) straight.code_is;
      no_frames = ap (λ (x : Code). x.frames) straight.code_is;
    }

all_run_straight : (pool : List Constant) (ms : List MemberInfo) (methods : List Method) → AreStraightMethods pool ms methods → AllByRecursion RunsStraight methods
all_run_straight pool [] [] p = tt
all_run_straight pool [] (x ∷ xs) p = absurd p
all_run_straight pool (m ∷ ms) [] p = absurd p
all_run_straight pool (m ∷ ms) (x ∷ xs) p = (runs_straight pool m x p.0, all_run_straight pool ms xs p.1)

-- ---- the entry of a straight set

-- the method that is found is one of the class
record IsFound (methods : List Method) (name desc : Name) : Type 0 where
  method : Method
  own : Contains methods method
  straight : RunsStraight method
  found : method_in methods name desc ≡ Some method

found_in : (methods : List Method) (name desc : Name) → AllByRecursion RunsStraight methods → runs_static (method_in methods name desc) ≡ true → IsFound methods name desc
found_in [] name desc all e = absurd cc
found_in (m ∷ methods) name desc all e = by (same_name m.name name && same_name m.desc desc) refl (found_in methods name desc all.1) where
  by : (b : Bool) → (same_name m.name name && same_name m.desc desc) ≡ b
      → (runs_static (method_in methods name desc) ≡ true → IsFound methods name desc) → IsFound (m ∷ methods) name desc
  by true is later = record { method = m; own = contains_first m methods; straight = all.0; found = rw is refl }
  by false is later =
      let more : IsFound methods name desc = later (rw is at e) in
      record { method = more.method; own = contains_later m methods more.method more.own; straight = more.straight; found = rw is more.found }

-- the entry's code: it is straight, and its lines are lines of the set
record IsEntryCode (files : List File) (program : Program) (class : List ℕ) : Type 0 where
  code : Code
  code_is : code_of program (entry_method class) ≡ Some code
  some : 0 < length code.instructions
  no_handlers : code.ranges ≡ []
  no_frames : code.frames ≡ Some []
  reported : (n : Option ℕ) → IsShapeFault straight_signature code n → (v : Violation) × IsShapeLineOf files program v

no_entry : (class : List ℕ) → has_entry [] class ≡ true → ⊥
no_entry class e = absurd cc

other_name : (c : Class) (class : List ℕ) → same_name c.name class ≡ false → has_entry (c ∷ []) class ≡ true → ⊥
other_name c class other e = let none : false ≡ true = rw other at e in absurd cc

code_in_class : (c : Class) (class : List ℕ) (code : Code) → same_name c.name class ≡ true
    → code_in (method_in c.methods (codes "verify") straight_descriptor) ≡ Some code → code_of (c ∷ []) (entry_method class) ≡ Some code
unfolding code_of
code_in_class c class code same e = rw same e

entry_in : (file : File) (c : Class) (class : List ℕ) → AllByRecursion RunsStraight c.methods → has_entry (c ∷ []) class ≡ true → IsEntryCode (file ∷ []) (c ∷ []) class
entry_in file c class all e = by (same_name c.name class) refl where
  by : (b : Bool) → same_name c.name class ≡ b → IsEntryCode (file ∷ []) (c ∷ []) class
  by false other = absurd (other_name c class other e)
  by true same =
      let f : IsFound c.methods (codes "verify") straight_descriptor = found_in c.methods (codes "verify") straight_descriptor all (rw same at e) in
      let r : RunsStraight f.method = f.straight in
      record {
        code = r.code;
        code_is = code_in_class c class r.code same (ap code_in f.found ∙ ap body_code r.runs);
        some = r.some;
        no_handlers = r.no_handlers;
        no_frames = r.no_frames;
        reported = λ n fault. (
          shape_line file.0 f.method n,
          inl (record { method = f.method; own = f.own; code = r.code; runs = r.runs; number = n; fault = fault; line = refl }),
        );
      }

entry_code : (files : List File) (program : Program) (class : List ℕ) → IsStraightSet files program → has_entry program class ≡ true → IsEntryCode files program class
entry_code [] program class is e = absurd (no_entry class (subst (λ (p : Program). has_entry p class ≡ true) is e))
entry_code (file ∷ []) program class (c, (info, is, straight), p-is) e =
    subst (λ (p : Program). IsEntryCode (file ∷ []) p class) (sym p-is)
    (entry_in file c class (all_run_straight info.pool info.methods c.methods straight.methods.straight) (subst (λ (p : Program). has_entry p class ≡ true) p-is e))
entry_code (file ∷ (other ∷ files)) program class is e = absurd is

no_fields : (files : List File) (program : Program) → IsStraightSet files program → HasNoFields program
no_fields [] program is = subst HasNoFields (sym is) tt
no_fields (file ∷ []) program (c, (info, is, straight), p-is) = subst HasNoFields (sym p-is) (ap (λ (x : Class). x.fields) straight.class_is, tt)
no_fields (file ∷ (other ∷ files)) program is = absurd is

-- ---- the run of a straight set that violates no rule

abbrev Ended : Program → List ℕ → List ℕ → Thresholds → Type 0
Ended program class input most = (outcome : Outcome) × (costs : Costs) × RunsTo program (entry_method class) input most outcome costs

ends_with_shape : (files : List File) (program : Program) (class input : List ℕ) (most : Thresholds) → IsStraightSet files program → (entry : IsEntryCode files program class)
    → HasShape straight_signature entry.code → Ended program class input most
ends_with_shape files program class input most straight entry shape =
    let is : IsStraightEntry program (entry_method class) straight_signature entry.code = record {
      code_is = entry.code_is;
      parameters = refl;
      shape = shape;
      some = entry.some;
      no_handlers = entry.no_handlers;
      no_frames = entry.no_frames;
      straight = λ i own. (refl, refl);
      no_initialiser = refl;
      no_fields = no_fields files program straight;
      no_initialisers = λ name above. no_initialisers files program straight name;
    } in
    let end = straight_code_ends program (entry_method class) straight_signature entry.code input most is in
    (end.0, end.1, (2 * length entry.code.instructions, end.2))

pub some_end : (files : List File) (program : Program) (class input : List ℕ) (most : Thresholds) → IsStraightSet files program → AreRunViolations files program class []
    → NotNot ((outcome : Outcome) × (costs : Costs) × RunsTo program (entry_method class) input most outcome costs)
some_end files program class input most straight none =
    let entry : IsEntryCode files program class = entry_code files program class straight (entry_is_there files program class none) in
    so (shape_or_fault straight_signature entry.code) (elim [
      | inl shape ↦ ends_with_shape files program class input most straight entry shape
      | inr (n, fault) ↦ let line = entry.reported n fault in absurd (contains_none line.0 ((none.all line.0).1 (inl line.1)))
    ])
