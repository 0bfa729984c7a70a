-- Lines of rule 21, what is least, and the order of files, by plain values.
use Rattle.std.proofs.Common.{◌≡◌, ℕ, zero, suc, List, [], ◌∷◌, None, refl, ap, arith, inl, codes, Contains, IsSorted}
use Rattle.std.specs.declared.cmp.Ordering.TheVariants.{Less, Greater}
use Rattle.std.proofs.lemmas.List.Sorted.{Contains-permutation, IsPermutation-refl}
use Rattle.dj_names.specs.trusted.Types.{Name}
use Rattle.dj_pool.specs.trusted.Pool.{Utf8, Class}
use Rattle.dj_class.specs.trusted.ClassFile.{MemberInfo, ClassFile}
use Rattle.dj_report.proofs.Sorted.{contains_first, contains_later, contains_none}
use Rattle.dj_report.specs.declared.report.Violation.{Violation}
use Rattle.dj_model.specs.trusted.Program.{Program}
use Rattle.dj_program.specs.trusted.Programs.{AreSideBySide}
use Rattle.dj_rewritten.specs.TooLarge.{IsTooLargeClass}
use Rattle.dj_rewrite.specs.declared.rewritten.RewrittenFile.{RewrittenFile}
use Rattle.dj_rewrite.specs.Answers.{IsKnownClass, AreTooLarge, WritesFile}
use Rattle.dj_rewrite.specs.Rule.{member_text, file_path, line_of, IsTooLargeLine}
use Rattle.dj_rewrite.specs.Sets.{file_cmp, IsFileOf, AreRewritten, part_cmp, IsTooLargePart, IsLeastTooLarge}

-- ---- texts and lines

abbrev method : MemberInfo
method = record { flags = 1; name = 1; desc = 2; attributes = [] }

text_of_method : member_text (Utf8 (codes "m") ∷ Utf8 (codes "()V") ∷ []) method ≡ codes "m()V"
text_of_method = refl

-- a class of this name without members
abbrev named : Name → ClassFile
named name = record {
  minor = 0;
  major = 52;
  pool = Utf8 name ∷ Class 1 ∷ [];
  flags = 33;
  this_class = 2;
  super_class = 0;
  interfaces = [];
  fields = [];
  methods = [];
  attributes = [];
}

abbrev line_in : List ℕ → List ℕ → Violation
line_in path member = record { path = path; member = member; number = None; rule = 21 }

line_of_class : line_of (named (codes "p/A")) [] ≡ line_in (file_path (codes "p/A")) []
line_of_class = refl

line_of_member : line_of (named (codes "p/A")) (codes "m()V") ≡ line_in (file_path (codes "p/A")) (codes "m()V")
line_of_member = refl

large_class : (program : Program) (c : ClassFile) → IsTooLargeClass program c → IsTooLargeLine program (c ∷ []) (line_of c [])
large_class program c large = (c, contains_first c [], ([], inl (large, refl), refl))

no_class : (program : Program) (v : Violation) → IsTooLargeLine program [] v → ⊥
no_class program v line = contains_none line.0 line.1

-- rule 20 has another number
other_rule : (program : Program) (files : List ClassFile) → IsTooLargeLine program files (record { path = codes "A.class"; member = []; number = None; rule = 20 }) → ⊥
other_rule program files (c, there, (member, large, is)) = absurd (omega (arith, ap (λ (v : Violation). v.rule) is))

-- ---- one class

nothing_tells : (program : Program) (c : ClassFile) → AreTooLarge program c [] → ⊥
nothing_tells program c large = (let some = large.some in omega (arith, some))

no_file : (program : Program) (c : ClassFile) (bytes : List ℕ) → IsTooLargeClass program c → WritesFile program c bytes → ⊥
no_file program c bytes large written = written.class_fits large

nameless : (program : Program) → IsKnownClass program (record (named (codes "A")) { this_class = 0 }) → ⊥
nameless program known = known.valid.this_class

-- ---- what is least

member_after_class : part_cmp (codes "A", []) (codes "A", codes "m()V") ≡ Less
member_after_class = refl

class_before_member : part_cmp (codes "B", []) (codes "A", codes "m()V") ≡ Greater
class_before_member = refl

-- the bytes of the names decide, and not those of the paths, where $ comes before the point
nested_after_outer : part_cmp (codes "A", []) (codes "A$B", []) ≡ Less
nested_after_outer = refl

module _ (program : Program) (a : IsTooLargeClass program (named (codes "A"))) (b : IsTooLargeClass program (named (codes "B"))) where
  abbrev both : List ClassFile
  both = named (codes "B") ∷ named (codes "A") ∷ []

  of_a : IsTooLargePart program both (codes "A", [])
  of_a = record { file = named (codes "A"); there = contains_later (named (codes "B")) (named (codes "A") ∷ []) (named (codes "A")) (contains_first (named (codes "A")) []); class = refl; member = inl (a, refl) }

  of_b : IsTooLargePart program both (codes "B", [])
  of_b = record { file = named (codes "B"); there = contains_first (named (codes "B")) (named (codes "A") ∷ []); class = refl; member = inl (b, refl) }

  not_the_greater : IsLeastTooLarge program both (codes "B", []) → ⊥
  not_the_greater least = absurd (let e = least.least (codes "A", []) of_a in cc)

-- ---- the order of files

abbrev file : Name → RewrittenFile
file name = record { name = name; bytes = [] }

in_order : IsSorted file_cmp (file (codes "A") ∷ file (codes "B") ∷ [])
in_order zero d low less = refl
in_order (suc k) d low less = absurd (omega (arith, less))

order_of_set : IsSorted file_cmp (file (codes "B") ∷ file (codes "A") ∷ []) → ⊥
order_of_set sorted = absurd (let e = sorted 0 (file (codes "B")) (omega arith) (omega arith) in cc)

no_files : (program : Program) → AreRewritten program [] []
no_files program = record { set = []; each = tt; moved = IsPermutation-refl []; in_order = λ k d low less. absurd (omega (arith, less)) }

left_out : (program : Program) (c : ClassFile) → AreRewritten program (c ∷ []) [] → ⊥
left_out program c made = go made.set made.each (λ f has. contains_none f (Contains-permutation made.set [] f made.moved has)) where
  go : (set : List RewrittenFile) → AreSideBySide (IsFileOf program) (c ∷ []) set → ((f : RewrittenFile) → Contains set f → ⊥) → ⊥
  go [] each none = each
  go (f ∷ set) each none = none f (contains_first f set)
