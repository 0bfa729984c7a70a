-- The lines of a class file and of a file, as the functions gather them.
use Rattle.std.proofs.Common.{◌≡◌, ℕ, ◌≤◌, ◌⊎◌, ◌↔◌, List, [], ◌∷◌, map, take, length, refl, sym, subst, inl, inr, arith, Contains}
use Rattle.dj_report.specs.declared.report.Violation.{Violation}
use Rattle.dj_class.specs.declared.class.MemberView.{MemberView}
use Rattle.dj_pool.specs.trusted.Pool.{Constant}
use Rattle.dj_class.specs.trusted.ClassFile.{MemberInfo, ClassFile, IsClassFile, IsMalformed}
use Rattle.dj_class.specs.Members.{member_of}
use Rattle.dj_pool.proofs.Decides.{tests_decide}
use Rattle.dj_class.proofs.ClassLaws.{one_class_file}
use Rattle.dj_report.specs.declared.report.PathFile.{PathFile}
use Rattle.dj_report.specs.trusted.Lines.{file_line, member_line}
use Rattle.dj_report.specs.Lines.{Adds, Gains, IsLineAmong}
use Rattle.dj_report.specs.trusted.Order.{IsInOrder}
use Rattle.dj_report.proofs.Sorted.{contains_none}
use Rattle.dj_report.proofs.Adding.{IsAmong, adds_same, adds_both, among_map, contains_map, from_contains_map, adds_none_yet, adds_one_more, exactly_found, exactly_same}
use Rattle.dj_file_rules.specs.Lines.{IsPairLine, pair_of}
use Rattle.std.proofs.lemmas.List.{take_all}
use Rattle.dj_file_rules.specs.trusted.Violations.{member_text, this_name, IsNative, IsFinalizer, HasOtherVersion, IsNamedAs, IsMethodLine, IsClassLine, IsLineOf, IsViolation, AreViolations}
use Rattle.dj_file_rules.specs.Views.{path_file_view}

-- the pair of a method of the condition
abbrev pub IsOwnPair : (List Constant → MemberInfo → Type 0) → List Constant → MemberView → ℕ × ℕ → Type 0
IsOwnPair IsSuch pool m pair = IsSuch pool (member_of m) × (pair ≡ pair_of (member_of m))

-- a line of a method is that of its pair
method_lines : (IsSuch : List Constant → MemberInfo → Type 0) (path : List ℕ) (rule : ℕ) (c : ClassFile) (views : List MemberView) (pairs : List (ℕ × ℕ)) → map member_of views ≡ c.methods → Gains (IsAmong (IsOwnPair IsSuch c.pool) views) [] pairs → (v : Violation) → IsLineAmong (IsPairLine path rule c.pool) pairs v ↔ IsMethodLine IsSuch path rule c v
method_lines IsSuch path rule c views pairs are gathered v = (
  λ (pair, m, line). elim ((gathered pair).0 m) [
    | inl none ↦ absurd (contains_none pair none)
    | inr (method, own, (such, is)) ↦ record {
      method = member_of method;
      own = subst (λ ms. Contains ms (member_of method)) are (contains_map member_of views method own);
      such = such;
      line = subst (λ p. IsPairLine path rule c.pool p v) is line;
    }
  ],
  λ is.
      let seen = from_contains_map member_of views is.method (subst (λ ms. Contains ms is.method) (sym are) is.own) in
      let such = subst (λ m. IsSuch c.pool m) (sym seen.2) is.such in
      let pair = pair_of (member_of seen.0) in
      (pair, (gathered pair).1 (inr (seen.0, seen.1, (such, refl))), subst (λ m. v ≡ member_line path (member_text c.pool m) rule) (sym seen.2) is.line),
)

-- lines of all methods
pub adds_method_lines : (IsSuch : List Constant → MemberInfo → Type 0) (path : List ℕ) (rule : ℕ) (c : ClassFile) (views : List MemberView) (pairs : List (ℕ × ℕ)) (a b : List Violation) → map member_of views ≡ c.methods → Gains (IsAmong (IsOwnPair IsSuch c.pool) views) [] pairs → Adds (IsLineAmong (IsPairLine path rule c.pool) pairs) a b → Adds (IsMethodLine IsSuch path rule c) a b
adds_method_lines IsSuch path rule c views pairs a b are gathered =
    adds_same (IsLineAmong (IsPairLine path rule c.pool) pairs) (IsMethodLine IsSuch path rule c) a b (method_lines IsSuch path rule c views pairs are gathered)

abbrev pub IsVersionLine : List ℕ → ClassFile → Violation → Type 0
IsVersionLine path c v = HasOtherVersion c × (v ≡ file_line path 2)

abbrev pub IsNameLine : List ℕ → ClassFile → Violation → Type 0
IsNameLine path c v = (IsNamedAs path (this_name c) → ⊥) × (v ≡ file_line path 3)

abbrev pub IsNativeLine : List ℕ → ClassFile → Violation → Type 0
IsNativeLine path c v = IsMethodLine (λ _ m. IsNative m) path 7 c v

abbrev pub IsFinalizerLine : List ℕ → ClassFile → Violation → Type 0
IsFinalizerLine path c v = IsMethodLine IsFinalizer path 8 c v

-- the lines of the four rules, one after the other
pub adds_class_lines : (path : List ℕ) (c : ClassFile) (x0 x1 x2 x3 x4 : List Violation) → Adds (IsVersionLine path c) x0 x1 → Adds (IsNameLine path c) x1 x2 → Adds (IsNativeLine path c) x2 x3 → Adds (IsFinalizerLine path c) x3 x4 → Adds (IsClassLine path c) x0 x4
adds_class_lines path c x0 x1 x2 x3 x4 version name native finalizer =
    adds_both (IsVersionLine path c) (λ v. IsNameLine path c v ⊎ (IsNativeLine path c v ⊎ IsFinalizerLine path c v)) x0 x1 x4 version
    (adds_both (IsNameLine path c) (λ v. IsNativeLine path c v ⊎ IsFinalizerLine path c v) x1 x2 x4 name
    (adds_both (IsNativeLine path c) (IsFinalizerLine path c) x2 x3 x4 native finalizer))

-- lines of a file that is a class file
pub adds_class_file : (path bytes : List ℕ) (c : ClassFile) (a b : List Violation) → IsClassFile bytes c → Adds (IsClassLine path c) a b → Adds (IsLineOf (path, bytes)) a b
adds_class_file path bytes c a b is =
    adds_same (IsClassLine path c) (IsLineOf (path, bytes)) a b (λ v. (
      λ line. inr (c, is, line),
      λ any. elim any [
        | inl none ↦ absurd (none.0 c is)
        | inr other ↦ subst (λ (d : ClassFile). IsClassLine path d v) (one_class_file tests_decide bytes other.0 c other.1 is) other.2
      ],
    ))

-- the line of a file that is none
pub adds_no_class_file : (path bytes : List ℕ) (a b : List Violation) → IsMalformed bytes → Adds (λ v. v ≡ file_line path 1) a b → Adds (IsLineOf (path, bytes)) a b
adds_no_class_file path bytes a b none =
    adds_same (λ v. v ≡ file_line path 1) (IsLineOf (path, bytes)) a b (λ v. (
      λ e. inl (none, e),
      λ any. elim any [ inl is ↦ is.1 | inr other ↦ absurd (none other.0 other.1) ],
    ))

abbrev pub IsOwnFileLine : PathFile → Violation → Type 0
IsOwnFileLine file v = IsLineOf (path_file_view file) v

-- the lines of all files, put in order
pub all_lines : (files : List PathFile) (n : ℕ) (found lines : List Violation) → length files ≤ n → Adds (IsLineAmong IsOwnFileLine (take n files)) [] found → IsInOrder lines → ((v : Violation) → Contains lines v ↔ Contains found v) → AreViolations (map path_file_view files) lines
all_lines files n found lines le adds in_order members =
    let own : Adds (IsLineAmong IsOwnFileLine files) [] found = subst (λ (xs : List PathFile). Adds (IsLineAmong IsOwnFileLine xs) [] found) (take_all n files le) adds in
    exactly_same (IsLineAmong IsOwnFileLine files) (IsViolation (map path_file_view files)) lines (among_map path_file_view IsLineOf files)
    (exactly_found (IsLineAmong IsOwnFileLine files) found lines own in_order members)

-- the lines of one file
pub one_file_lines : (file : PathFile) (found lines : List Violation) → Adds (IsOwnFileLine file) [] found → IsInOrder lines → ((v : Violation) → Contains lines v ↔ Contains found v) → AreViolations (path_file_view file ∷ []) lines
one_file_lines file found lines adds =
    all_lines (file ∷ []) 1 found lines (omega arith)
    (adds_one_more IsOwnFileLine (file ∷ []) 0 file [] [] found (omega arith) (adds_none_yet IsOwnFileLine (file ∷ []) []) adds)
