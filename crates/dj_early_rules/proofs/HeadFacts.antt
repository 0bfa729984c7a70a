-- Rule 6 at plain values: heads, members that are repeated, and lines of files. And code without labels, and without instructions.
use Rattle.std.proofs.Common.{◌≡◌, ℕ, zero, suc, ◌<◌, Bool, true, false, List, [], ◌∷◌, get_or, pos, Option, Some, None, refl, sym, ap, ◌∙◌, subst, inl, inr, arith, codes, nat_eq, ◌&&◌, Contains, slice_get}
use Rattle.std.specs.Prelude.{IsSomeAnd}
use Rattle.std.specs.List.{list_all}
use Rattle.std.proofs.Math.Facts.{sfits_lit}
use Rattle.std.proofs.lemmas.Int.{ints}
use Rattle.std.proofs.lemmas.Bool.{eqb-true}
use Rattle.dj_edge.specs.trusted.Held.{File}
use Rattle.dj_ops.specs.declared.instruction.Instr.TheVariants as instrs
use Rattle.dj_ops.specs.trusted.Forms.{form_of}
use Rattle.dj_ops.specs.Mnemonics.{goto}
use Rattle.dj_pool.specs.trusted.Pool.{Constant, Utf8, Class, text_at}
use Rattle.dj_pool.proofs.Decides.{tests_decide}
use Rattle.dj_class.specs.trusted.ClassFile.{MemberInfo, ClassFile}
use Rattle.dj_class.specs.trusted.Code.{CodeInfo}
use Rattle.dj_class.proofs.ClassLaws.{one_class_file}
use Rattle.dj_labels.specs.declared.errors.CodeError.TheVariants as errors
use Rattle.dj_labels.specs.Faults.{Refuses}
use Rattle.dj_labels.proofs.Once.{no_labels}
use Rattle.dj_report.specs.declared.report.Violation.{Violation}
use Rattle.dj_report.specs.trusted.Lines.{file_line}
use Rattle.dj_report.proofs.Sorted.{contains_none, contains_cases}
use Rattle.dj_library.specs.trusted.Heads.{Head, library_heads}
use Rattle.dj_hierarchy_rule.specs.trusted.Hierarchy.{IsMissing, LacksSuperclass, IsBadSuperclass}
use Rattle.dj_early_rules.specs.trusted.Malformed.{IsNoBody, LacksLabels, IsRefused, IsGood}
use Rattle.dj_early_rules.specs.trusted.Heads.{head_of, StandsAmong, HasRepeats}
use Rattle.dj_early_rules.specs.trusted.Rules.{IsHierarchyLine}
use Rattle.dj_early_rules.proofs.FileLaws.{refused_not_good}

-- ---- heads

-- 1 to 6 are the classes A, B and C, 7 and 8 descriptors of fields
pool : List Constant
pool = Utf8 (codes "A") ∷ Class 1 ∷ Utf8 (codes "B") ∷ Class 3 ∷ Utf8 (codes "C") ∷ Class 5 ∷ Utf8 (codes "I") ∷ Utf8 (codes "J") ∷ Utf8 (codes "I") ∷ []

class : ℕ → List MemberInfo → List MemberInfo → ClassFile
class super_class fields methods = record {
  minor = 0;
  major = 52;
  pool = pool;
  flags = 33;
  this_class = 2;
  super_class = super_class;
  interfaces = 6 ∷ 4 ∷ 6 ∷ [];
  fields = fields;
  methods = methods;
  attributes = [];
}

-- A below B, with the interfaces C, B and C again
head : head_of (class 4 [] []) ≡ record { name = codes "A"; flags = 33; superclass = Some (codes "B"); interfaces = codes "C" ∷ codes "B" ∷ codes "C" ∷ [] }
unfolding class pool
head = refl

-- super_class 0
no-superclass : LacksSuperclass (head_of (class 0 [] []))
unfolding class pool
no-superclass = refl

superclass_not : LacksSuperclass (head_of (class 4 [] [])) → ⊥
unfolding class pool
superclass_not none = absurd cc

-- ---- members

member : ℕ → ℕ → MemberInfo
member name desc = record { flags = 1; name = name; desc = desc; attributes = [] }

-- two fields of one name and one descriptor, whose texts are the same at two indexes
two-fields : HasRepeats (class 4 (member 1 7 ∷ member 3 7 ∷ member 1 9 ∷ []) [])
unfolding class pool member
two-fields = inl (record { first = 0; other = 2; apart = omega arith; one = member 1 7; one_is = refl; two = member 1 9; two_is = refl; name = refl; desc = refl })

two-methods : HasRepeats (class 4 [] (member 1 7 ∷ member 1 7 ∷ []))
unfolding class pool member
two-methods = inr (record { first = 0; other = 1; apart = omega arith; one = member 1 7; one_is = refl; two = member 1 7; two_is = refl; name = refl; desc = refl })

at-most : (x m : MemberInfo) (i : ℕ) → slice_get (x ∷ []) i ≡ Some m → i ≡ 0
at-most x m zero e = refl
at-most x m (suc zero) e = absurd cc
at-most x m (suc (suc i)) e = absurd cc

-- a field and a method of one name and one descriptor
field-and-method_not : HasRepeats (class 4 (member 1 7 ∷ []) (member 1 7 ∷ [])) → ⊥
unfolding class pool member
field-and-method_not repeats = elim repeats [
  | inl r ↦ one-alone (member 1 7) r.first r.other r.two r.apart r.two_is
  | inr r ↦ one-alone (member 1 7) r.first r.other r.two r.apart r.two_is
] where
  one-alone : (x : MemberInfo) (i j : ℕ) (m : MemberInfo) → i < j → slice_get (x ∷ []) j ≡ Some m → ⊥
  one-alone x i j m lt e = let zero-th = at-most x m j e in absurd (omega (arith, lt, zero-th))

second-of : (x y m n : MemberInfo) (i j : ℕ) → i < j → slice_get (x ∷ y ∷ []) i ≡ Some m → slice_get (x ∷ y ∷ []) j ≡ Some n → (x ≡ m) × (y ≡ n)
second-of x y m n i zero lt e f = absurd (omega (arith, lt))
second-of x y m n zero (suc zero) lt e f = (cc, cc)
second-of x y m n (suc i) (suc zero) lt e f = absurd (omega (arith, lt))
second-of x y m n i (suc (suc zero)) lt e f = absurd cc
second-of x y m n i (suc (suc (suc j))) lt e f = absurd cc

-- two methods of one name and other descriptors, and two of other names
other-descriptors_not : HasRepeats (class 4 [] (member 1 7 ∷ member 1 8 ∷ [])) → ⊥
unfolding class pool member
other-descriptors_not repeats = elim repeats [
  | inl r ↦ let e = r.one_is in absurd (none-in r.first r.one e)
  | inr r ↦
      let both = second-of (member 1 7) (member 1 8) r.one r.two r.first r.other r.apart r.one_is r.two_is in
      let desc : Some (codes "I") ≡ Some (codes "J") = ap (λ (m : MemberInfo). text_at pool m.desc) both.0 ∙ r.desc ∙ sym (ap (λ (m : MemberInfo). text_at pool m.desc) both.1) in
      let letter : 73 ≡ 74 = ap first-letter desc in
      absurd (omega (arith, letter))
] where
  none-in : (i : ℕ) (m : MemberInfo) → slice_get {X = MemberInfo} [] i ≡ Some m → ⊥
  none-in zero m e = absurd cc
  none-in (suc i) m e = absurd cc

  first-letter : Option (List ℕ) → ℕ
  first-letter None = 0
  first-letter (Some t) = get_or t 0 0

-- ---- lines of files

-- a class without a superclass, whatever the others are
no-superclass-line : (p b : List ℕ) (c : ClassFile) (others : List File) → IsGood b c → LacksSuperclass (head_of c) → IsHierarchyLine ((p, b) ∷ others) (file_line p 6)
no-superclass-line p b c others good none = record { file = (p, b); own = (0, omega arith, refl); class = c; good = good; such = inl (inl none); line = refl }

-- a file that rule 1 refuses has none
refused_not : (p b : List ℕ) (v : Violation) → IsRefused b → IsHierarchyLine ((p, b) ∷ []) v → ⊥
refused_not p b v refused is = elim (contains_cases (p, b) [] is.file is.own) [
  | inl same ↦ refused_not_good b is.class (subst (λ (f : File). IsGood f.1 is.class) (sym same) is.good) refused
  | inr none ↦ contains_none is.file none
]

-- every name of the library begins with j
begins : Head → Bool
begins head = nat_eq (get_or head.name 0 0) 106

library-begins : list_all begins library_heads ≡ true
unfolding begins library_heads
library-begins = refl

both-true : (a b : Bool) → (a && b) ≡ true → (a ≡ true) × (b ≡ true)
both-true true b e = (refl, e)
both-true false b e = absurd cc

each-begins : (heads : List Head) (head : Head) → list_all begins heads ≡ true → Contains heads head → begins head ≡ true
each-begins [] head all m = absurd (contains_none head m)
each-begins (h ∷ heads) head all m =
    let both = both-true (begins h) (list_all begins heads) all in
    elim (contains_cases h heads head m) [
      | inl same ↦ subst (λ (x : Head). begins x ≡ true) same both.0
      | inr later ↦ each-begins heads head both.1 later
    ]

-- of two files the one is the superclass of the other, which is then there
superclass-there : (p q a b : List ℕ) (c d : ClassFile) → IsGood a c → IsGood b d → (head_of c).superclass ≡ Some (head_of d).name → IsMissing (StandsAmong ((p, a) ∷ (q, b) ∷ [])) (head_of d).name → ⊥
superclass-there p q a b c d good other above missing = missing (head_of d, inl ((q, b), (1, omega arith, refl), d, other, refl), refl, tt)

-- and in a set without it a superclass B isn't
superclass-missing : (p a : List ℕ) (c : ClassFile) → IsGood a c → (head_of c).name ≡ codes "A" → (head_of c).superclass ≡ Some (codes "B") → IsHierarchyLine ((p, a) ∷ []) (file_line p 6)
unfolding begins
superclass-missing p a c good name above = record {
  file = (p, a);
  own = (0, omega arith, refl);
  class = c;
  good = good;
  such = inl (inr (inl (subst (λ (o : Option (List ℕ)). IsSomeAnd o (IsBadSuperclass (StandsAmong ((p, a) ∷ [])))) (sym above) (inl missing))));
  line = refl;
} where
  begins-with : (h : Head) → begins h ≡ true → get_or h.name 0 0 ≡ 106
  begins-with h t = eqb-true (get_or h.name 0 0) 106 t

  missing : IsMissing (StandsAmong ((p, a) ∷ [])) (codes "B")
  missing (h, there, named, any) = elim there [
    | inl (file, own, d, is, same) ↦ elim (contains_cases (p, a) [] file own) [
      | inl e ↦
          let is' : IsGood a d = subst (λ (f : File). IsGood f.1 d) (sym e) is in
          let both : codes "A" ≡ codes "B" = sym name ∙ ap (λ (x : ClassFile). (head_of x).name) (one_class_file tests_decide a c d good.file is'.file) ∙ sym (ap (λ (x : Head). x.name) same) ∙ named in
          let letter : 65 ≡ 66 = ap (λ (t : List ℕ). get_or t 0 0) both in
          absurd (omega (arith, letter))
      | inr none ↦ contains_none file none
    ]
    | inr library ↦
        let j = begins-with h (each-begins library_heads h library-begins library) in
        let letter : 106 ≡ 66 = sym j ∙ ap (λ (t : List ℕ). get_or t 0 0) named in
        absurd (omega (arith, letter))
  ]

-- ---- code without labels

not-start : (k : ℕ) → k < 1 → get_or (pos 0 ∷ []) k (pos 3) ≡ pos 3 → ⊥
not-start zero lt at = omega (arith, ints, at)
not-start (suc k) lt at = omega (arith, lt)

past-end : Refuses (goto ∷ 0 ∷ 3 ∷ []) [] (errors.Target 0)
unfolding form_of
past-end = record {
  starts = 0 ∷ [];
  instrs = instrs.Branch goto (pos 3) ∷ [];
  cut = record {
    first = refl;
    each = (record { later = omega arith; within = omega arith; spelled = record { padding = []; padded = refl; offsets = sfits_lit tt; are = refl }; proper = inl refl }, tt);
  };
  number = 0;
  stands_at = refl;
  instr = instrs.Branch goto (pos 3);
  first = record { found = refl; lacks = λ has. not-start has.0.0 has.0.1 has.0.2; before = tt };
}

code : List ℕ → CodeInfo
code bytes = record { max_stack = 0; max_locals = 1; code = bytes; table = []; attributes = [] }

-- a goto past the end
no-labels : LacksLabels (code (goto ∷ 0 ∷ 3 ∷ []))
unfolding code
no-labels labelled is = no_labels (goto ∷ 0 ∷ 3 ∷ []) [] labelled (errors.Target 0) is past-end

-- ---- a body with empty code

-- no stack, one local variable, no code, no rows and no attributes
empty-code : IsNoBody (0 ∷ 0 ∷ 0 ∷ 1 ∷ 0 ∷ 0 ∷ 0 ∷ 0 ∷ 0 ∷ 0 ∷ 0 ∷ 0 ∷ [])
empty-code info is =
    let high = ap (λ (xs : List ℕ). get_or xs 6 0) is.spelled in
    let low = ap (λ (xs : List ℕ). get_or xs 7 0) is.spelled in
    let some = is.valid.some_code in
    let few = is.valid.few_code in
    absurd (omega (arith, high, low, some, few))
