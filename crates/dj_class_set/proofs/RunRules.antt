-- The rules of a run: the entry, and the lines of the methods.
use Rattle.std.proofs.Common.{◌≡◌, ◌≢◌, ℕ, zero, suc, get_or, ◌^◌, ◌<◌, ◌⊎◌, ◌↔◌, Bool, true, false, not, nat_eq, bit_and, List, [], ◌∷◌, ◌++◌, map, length, slice_get, Option, Some, None, Contains, refl, sym, ap, subst, ◌∙◌, inl, inr, codes, arith, IsTrue}
use Rattle.std.proofs.lemmas.Bool.Decides.{nat_tests}
use Rattle.std.proofs.lemmas.List.Elements.{All-weaker, Contains-get_or}
use Rattle.std.proofs.lemmas.Nat.Bits.{and_pow, bit_at-lt}
use Rattle.std.specs.Int.{IsBitSet}
use Rattle.dj_edge.specs.trusted.Held.{File}
use Rattle.dj_class.specs.trusted.Access as access
use Rattle.dj_straight.specs.trusted.Program.{Program, Method, Code, Runs, is_static}
use Rattle.dj_straight.specs.trusted.Shape.{IsShapeFault}
use Rattle.dj_straight.proofs.Shapes.{one_shape_fault, no_fault_with_shape}
use Rattle.dj_report.specs.declared.report.PathFile.{PathFile}
use Rattle.dj_report.specs.declared.report.Violation.{Violation}
use Rattle.dj_straight.specs.declared.program.StraightMethod.{StraightMethod}
use Rattle.dj_straight.specs.declared.program.StraightClass.{StraightClass}
use Rattle.dj_class_set.specs.trusted.Entry.{has_entry, AreRunViolations, IsEntryLine, IsShapeLine, IsShapeLineOf}
use Rattle.dj_report.specs.Lines.{Adds, IsLineAmong}
use Rattle.dj_straight.specs.trusted.Methods.{straight_signature}
use Rattle.dj_straight.specs.Methods.{code_view, method_view, program_view}
use Rattle.dj_straight.specs.Running.{IsRunnable}
use Rattle.dj_straight.proofs.Straights.{are_runnable}
use Rattle.dj_class_set.specs.Shaped.{shape_line, AreReported, AreShaped, AreShort, IsShaped}
use Rattle.dj_straight.specs.trusted.Straight.{IsStraightSet}
use Rattle.dj_file_rules.specs.Views.{path_file_view}
use Rattle.dj_report.specs.trusted.Lines.{file_line}
use Rattle.dj_report.specs.trusted.Order.{IsInOrder}
use Rattle.dj_report.proofs.Sorted.{contains_none}
use Rattle.dj_report.proofs.Adding.{adds_same, adds_nothing, adds_both, contains_map, from_contains_map, exactly_found}

-- ---- the entry

static_test : (flags : ℕ) → not (nat_eq (bit_and flags 8) 0) ≡ is_static flags
static_test flags = let e = and_pow flags 3 in let lt = bit_at-lt flags 3 in grind (arith, nat_tests)

-- the bit is set exactly where the mask leaves something
masked : (b : Bool) (n : ℕ) → (IsTrue b ↔ (n ≢ 0)) → b ≡ not (nat_eq n 0)
masked true zero set = absurd (set.0 refl refl)
masked true (suc n) set = grind (arith, nat_tests)
masked false zero set = refl
masked false (suc n) set = let is = set.1 (λ e. absurd (omega arith)) in absurd cc

pub static_is : (flags : ℕ) (b : Bool) → (IsTrue b ↔ IsBitSet flags access.static) → b ≡ is_static flags
static_is flags b set = masked b (bit_and flags 8) set ∙ static_test flags

is_true : (b : Bool) → (b ≡ false → ⊥) → b ≡ true
is_true true none = refl
is_true false none = absurd (none refl)

-- where no rule is violated the entry is there
pub entry_is_there : (files : List File) (program : Program) (class : List ℕ) → AreRunViolations files program class [] → has_entry program class ≡ true
entry_is_there files program class run =
    is_true (has_entry program class) (λ none.
    let line : Violation = file_line (class ++ codes ".class") 20 in contains_none line ((run.all line).1 (inr (none, refl))))

-- ---- the line of a method

contains_one : {X : Type 0} (x y : X) → Contains (x ∷ []) y → x ≡ y
contains_one x y (zero, lt, e) = e
contains_one x y (suc k, lt, e) = absurd (omega arith)

-- a line of the method alone
abbrev pub IsOwnShapeLine : List ℕ → StraightMethod → Violation → Type 0
IsOwnShapeLine path m v = IsShapeLine path (method_view m ∷ []) v

own_fault : (path : List ℕ) (m : StraightMethod) (v : Violation) → (line : IsOwnShapeLine path m v) → IsShapeFault straight_signature (code_view m) line.number
own_fault path m v line =
    let runs : Runs (code_view m) ≡ Runs line.code = ap (λ (x : Method). x.body) (contains_one (method_view m) line.method line.own) ∙ line.runs in
    let same : code_view m ≡ line.code = cc in
    subst (λ (code : Code). IsShapeFault straight_signature code line.number) (sym same) line.fault

own_line : (path : List ℕ) (m : StraightMethod) (n : Option ℕ) → IsShapeFault straight_signature (code_view m) n → (v : Violation) → (v ≡ shape_line path (method_view m) n) ↔ IsOwnShapeLine path m v
own_line path m n fault v = (
  λ e. record { method = method_view m; own = (0, omega arith, refl); code = code_view m; runs = refl; number = n; fault = fault; line = e },
  λ line.
      let number : line.number ≡ n = one_shape_fault straight_signature (code_view m) line.number n (own_fault path m v line) fault in
      line.line ∙ ap (λ (x : Method). shape_line path x line.number) (sym (contains_one (method_view m) line.method line.own))
      ∙ ap (shape_line path (method_view m)) number,
)

pub adds_fault : (path : List ℕ) (m : StraightMethod) (n : Option ℕ) (a b : List Violation) → IsShapeFault straight_signature (code_view m) n → Adds (λ v. v ≡ shape_line path (method_view m) n) a b → Adds (IsOwnShapeLine path m) a b
adds_fault path m n a b fault = adds_same (λ v. v ≡ shape_line path (method_view m) n) (IsOwnShapeLine path m) a b (own_line path m n fault)

pub adds_no_fault : (path : List ℕ) (m : StraightMethod) (a : List Violation) → IsShaped m → Adds (IsOwnShapeLine path m) a a
adds_no_fault path m a shape = adds_nothing (IsOwnShapeLine path m) a (λ v line. no_fault_with_shape straight_signature (code_view m) line.number shape (own_fault path m v line))

-- ---- the lines of all methods

method_lines : (path : List ℕ) (ms : List StraightMethod) (v : Violation) → IsLineAmong (IsOwnShapeLine path) ms v ↔ IsShapeLine path (map method_view ms) v
method_lines path ms v = (
  λ (m, own, line). record {
    method = line.method;
    own = subst (Contains (map method_view ms)) (contains_one (method_view m) line.method line.own) (contains_map method_view ms m own);
    code = line.code;
    runs = line.runs;
    number = line.number;
    fault = line.fault;
    line = line.line;
  },
  λ line.
      let seen = from_contains_map method_view ms line.method line.own in (
        seen.0,
        seen.1,
        record {
          method = line.method;
          own = (0, omega arith, seen.2);
          code = line.code;
          runs = line.runs;
          number = line.number;
          fault = line.fault;
          line = line.line;
        },
      ),
)

pub adds_methods : (path : List ℕ) (ms : List StraightMethod) (a b : List Violation) → Adds (IsLineAmong (IsOwnShapeLine path) ms) a b → Adds (IsShapeLine path (map method_view ms)) a b
adds_methods path ms a b = adds_same (IsLineAmong (IsOwnShapeLine path) ms) (IsShapeLine path (map method_view ms)) a b (method_lines path ms)

-- ---- the lines of the class

pub no_class : (files : List File) (v : Violation) → IsShapeLineOf files [] v → ⊥
no_class [] v line = line
no_class (file ∷ files) v line = line

class_lines : (files : List PathFile) (file : PathFile) (c : StraightClass) → slice_get files 0 ≡ Some file → (v : Violation) → IsShapeLine file.path.now (map method_view c.methods.items) v ↔ IsShapeLineOf (map path_file_view files) (program_view (Some c)) v
class_lines [] file c e v = absurd cc
class_lines (first ∷ files) file c e v =
    let same : first ≡ file = cc in (
      λ line. inl (subst (λ (f : PathFile). IsShapeLine f.path.now (map method_view c.methods.items) v) (sym same) line),
      λ any. elim any [
        | inl line ↦ subst (λ (f : PathFile). IsShapeLine f.path.now (map method_view c.methods.items) v) same line
        | inr more ↦ absurd (no_class (map path_file_view files) v more)
      ],
    )

pub adds_class : (files : List PathFile) (file : PathFile) (c : StraightClass) (a b : List Violation) → slice_get files 0 ≡ Some file → Adds (IsShapeLine file.path.now (map method_view c.methods.items)) a b → Adds (IsShapeLineOf (map path_file_view files) (program_view (Some c))) a b
adds_class files file c a b e =
    adds_same (IsShapeLine file.path.now (map method_view c.methods.items)) (IsShapeLineOf (map path_file_view files) (program_view (Some c))) a b (class_lines files file c e)

pub adds_no_class : (files : List File) (a : List Violation) → Adds (IsShapeLineOf files []) a a
adds_no_class files a = adds_nothing (IsShapeLineOf files []) a (no_class files)

-- ---- what the rules of a run take of a straight set

pub straight_is_short : (files : List File) (class : Option StraightClass) → IsStraightSet files (program_view class) → AreShort class
straight_is_short files None straight = tt
straight_is_short files (Some c) straight =
    All-weaker IsRunnable (λ m. length m.actions.items < 2 ^ 32) (λ m runs. omega (arith, runs.few, m.actions.ok.0)) c.methods.items (are_runnable files (Some c) straight)

pub straight_is_as_many : (files : List File) (program : Program) → IsStraightSet files program → length files ≡ length program
straight_is_as_many [] program straight = sym (ap length straight)
straight_is_as_many (file ∷ []) program straight = sym (ap length straight.2)
straight_is_as_many (file ∷ other ∷ files) program straight = absurd straight

-- ---- all lines

-- where no rule is violated each method has shape
pub all_shaped : (files : List File) (class : Option StraightClass) (entry : List ℕ) (violations : List Violation) → length files ≡ length (program_view class) → AreRunViolations files (program_view class) entry violations → AreReported class → violations ≡ [] → AreShaped class
all_shaped files None entry violations as_many run judged none = tt
all_shaped [] (Some c) entry violations as_many run judged none = absurd (omega arith)
all_shaped (file ∷ files) (Some c) entry violations as_many run judged none = λ k d lt.
    elim (judged k d lt) [
      | inl shape ↦ shape
      | inr (n, fault) ↦
          let m : StraightMethod = get_or c.methods.items k d in
          let line : Violation = shape_line file.0 (method_view m) n in
          let is : IsShapeLine file.0 (map method_view c.methods.items) line = record {
            method = method_view m;
            own = contains_map method_view c.methods.items m (Contains-get_or c.methods.items k d lt);
            code = code_view m;
            runs = refl;
            number = n;
            fault = fault;
            line = refl;
          } in
          absurd (contains_none line (subst (λ vs. Contains vs line) none ((run.all line).1 (inl (inl is)))))
    ]

pub run_lines : (files : List File) (program : Program) (entry : List ℕ) (mid found lines : List Violation) → Adds (IsShapeLineOf files program) [] mid → Adds (IsEntryLine program entry) mid found → IsInOrder lines → ((v : Violation) → Contains lines v ↔ Contains found v) → AreRunViolations files program entry lines
run_lines files program entry mid found lines shapes entries =
    exactly_found (λ v. IsShapeLineOf files program v ⊎ IsEntryLine program entry v) found lines
    (adds_both (IsShapeLineOf files program) (IsEntryLine program entry) [] mid found shapes entries)
