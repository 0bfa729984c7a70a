-- The least of what doesn't fit, and what is known of the classes so far.
use Rattle.std.proofs.Common.{◌≡◌, ℕ, ◌+◌, ◌<◌, ◌≤◌, ◌⊎◌, Bool, true, false, List, [], ◌∷◌, ◌++◌, map, take, length, get_or, Option, Some, None, refl, sym, ap, subst, ◌∙◌, inl, inr, Contains, IsPermutation, IsSorted, if◌then◌else◌}
use Rattle.std.specs.declared.cmp.Ordering.{Ordering}
use Rattle.std.specs.declared.cmp.Ordering.TheVariants.{Less, Equal, Greater}
use Rattle.std.specs.Ordering.{nat_cmp, is_gt, is_lt, ordering_then, ordering_reverse}
use Rattle.std.specs.Cmp.{IsTotalOrder, IsStrictWeakOrder, then_total, tied_itself, upto}
use Rattle.std.specs.Cmp.Lexicographic.{slice_cmp, on_texts}
use Rattle.std.proofs.lemmas.List.{map-append, take_all, take_more}
use Rattle.std.proofs.lemmas.List.Elements.{Contains-append_left, Contains-push, Contains-push_cases}
use Rattle.std.proofs.lemmas.Cmp.{nat_list_cmp_total}
use Rattle.std.proofs.lemmas.List.Sorted.{ranks_by}
use Rattle.dj_names.specs.trusted.Types.{Name}
use Rattle.dj_class.specs.declared.class.ClassView.{ClassView}
use Rattle.dj_class.specs.Views.{class_of}
use Rattle.dj_class.specs.trusted.ClassFile.{ClassFile}
use Rattle.dj_class.specs.trusted.Names.{this_name}
use Rattle.dj_report.proofs.Sorted.{contains_none}
use Rattle.dj_model.specs.trusted.Program.{Program}
use Rattle.dj_program.specs.trusted.Programs.{AreSideBySide}
use Rattle.dj_rewrite.specs.declared.least.Part.{Part}
use Rattle.dj_rewrite.specs.declared.rewritten.RewrittenFile.{RewrittenFile}
use Rattle.dj_rewrite.specs.declared.set.Progress.{Progress}
use Rattle.dj_rewrite.specs.Answers.{AreTooLarge}
use Rattle.dj_rewrite.specs.Rule.{IsTooLargeIn}
use Rattle.dj_rewrite.specs.Sets.{file_cmp, IsFileOf, AreRewritten, part_cmp, IsTooLargePart, IsLeastTooLarge}
use Rattle.dj_rewrite.specs.Steps.{part_of, lesser_text, IsLeastUpTo, IsLeastText, IsLeastPart, lesser_of, IsLeastSoFar, IsProgress}
use Rattle.dj_rewrite.proofs.NewMembers.{side_more}

-- ---- orders

part_cmp_total : IsTotalOrder part_cmp
part_cmp_total = then_total (on_texts (λ (p : Name × Name). p.0)) (on_texts (λ (p : Name × Name). p.1))

pub file_order : IsStrictWeakOrder (λ (a b : RewrittenFile). is_lt (file_cmp a b))
file_order = ranks_by nat_list_cmp_total (λ (f : RewrittenFile). f.name)

text_itself : (text : Name) → is_gt (slice_cmp nat_cmp text text) ≡ false
text_itself text = ap is_gt (tied_itself (on_texts (λ (t : Name). t)) text)

text_upto : (a b d : Name) → is_gt (slice_cmp nat_cmp a b) ≡ false → is_gt (slice_cmp nat_cmp b d) ≡ false → is_gt (slice_cmp nat_cmp a d) ≡ false
text_upto = upto (on_texts (λ (t : Name). t))

not_above : (o : Ordering) → is_lt o ≡ true → is_gt o ≡ false
not_above Less e = refl
not_above Equal e = refl
not_above Greater e = absurd cc

turned : (o p : Ordering) → p ≡ ordering_reverse o → is_lt o ≡ false → is_gt p ≡ false
turned Less p e lt = absurd cc
turned Equal p e lt = ap is_gt e
turned Greater p e lt = ap is_gt e

text_below : (a b : Name) → is_lt (slice_cmp nat_cmp a b) ≡ true → is_gt (slice_cmp nat_cmp a b) ≡ false
text_below a b = not_above (slice_cmp nat_cmp a b)

text_not_below : (a b : Name) → is_lt (slice_cmp nat_cmp b a) ≡ false → is_gt (slice_cmp nat_cmp a b) ≡ false
text_not_below a b = turned (slice_cmp nat_cmp b a) (slice_cmp nat_cmp a b) ((on_texts (λ (t : Name). t)).antisymm a b)

-- ---- texts

pub least_first : (texts : List Name) (x : Name) → 0 < length texts → x ≡ get_or texts 0 x → IsLeastUpTo texts 0 x
least_first texts x some is = record { there = (0, some, sym is); least = λ other has. absurd (contains_none other has) }

pub least_next : (texts : List Name) (i : ℕ) (x least now : Name) → i < length texts → x ≡ get_or texts i x → now ≡ lesser_text least x → IsLeastUpTo texts i least → IsLeastUpTo texts (i + 1) now
least_next texts i x least now lt is made h = subst (IsLeastUpTo texts (i + 1)) (sym made) (go (is_lt (slice_cmp nat_cmp x least)) refl) where
  cases : (other : Name) → Contains (take (i + 1) texts) other → Contains (take i texts) other ⊎ (x ≡ other)
  cases other has =
      elim (Contains-push_cases (take i texts) (get_or texts i x) other (subst (λ (list : List Name). Contains list other) (take_more texts i x lt) has)) [
        | inl old ↦ inl old
        | inr e ↦ inr (is ∙ e)
      ]

  go : (b : Bool) → is_lt (slice_cmp nat_cmp x least) ≡ b → IsLeastUpTo texts (i + 1) (if b then x else least)
  go true e = record {
    there = (i, lt, sym is);
    least = λ other has. elim (cases other has) [
      | inl old ↦ text_upto x least other (text_below x least e) (h.least other old)
      | inr same ↦ subst (λ (t : Name). is_gt (slice_cmp nat_cmp x t) ≡ false) same (text_itself x)
    ];
  }
  go false e = record {
    there = h.there;
    least = λ other has. elim (cases other has) [
      | inl old ↦ h.least other old
      | inr same ↦ subst (λ (t : Name). is_gt (slice_cmp nat_cmp least t) ≡ false) same (text_not_below least x e)
    ];
  }

pub least_end : (texts : List Name) (i : ℕ) (least : Name) → length texts ≤ i → IsLeastUpTo texts i least → IsLeastText texts least
least_end texts i least past h = record { there = h.there; least = λ other has. h.least other (subst (λ (list : List Name). Contains list other) (sym (take_all i texts past)) has) }

-- ---- what doesn't fit

widened : (program : Program) (done : List ClassFile) (c : ClassFile) (part : Name × Name) → IsTooLargePart program done part → IsTooLargePart program (done ++ c ∷ []) part
widened program done c part is = record { file = is.file; there = Contains-append_left done (c ∷ []) is.file is.there; class = is.class; member = is.member }

-- of the classes before, or of the last
record IsOwnPart (program : Program) (c : ClassFile) (part : Name × Name) : Type 0 where
  class : part.0 ≡ this_name c
  member : IsTooLargeIn program c part.1

narrowed : (program : Program) (done : List ClassFile) (c : ClassFile) (part : Name × Name) → IsTooLargePart program (done ++ c ∷ []) part → IsTooLargePart program done part ⊎ IsOwnPart program c part
narrowed program done c part is = elim (Contains-push_cases done c is.file is.there) [
  | inl old ↦ inl (record { file = is.file; there = old; class = is.class; member = is.member })
  | inr e ↦ inr (record { class = is.class ∙ ap this_name (sym e); member = subst (λ (x : ClassFile). IsTooLargeIn program x part.1) (sym e) is.member })
]

own_part : (program : Program) (done : List ClassFile) (c : ClassFile) (part : Name × Name) → IsOwnPart program c part → IsTooLargePart program (done ++ c ∷ []) part
own_part program done c part is = record { file = c; there = Contains-push done c; class = is.class; member = is.member }

-- ---- the least

then_second : (a b : Ordering) → a ≡ Equal → is_gt b ≡ false → is_gt (ordering_then a b) ≡ false
then_second a b e h = subst (λ (o : Ordering). is_gt (ordering_then o b) ≡ false) (sym e) h

-- that of the last class
module _ (program : Program) (done : List ClassFile) (c : ClassFile) (texts : List Name) (large : AreTooLarge program c texts) (part : Part) (own : IsLeastPart (this_name c) texts part) where
  own_such : IsOwnPart program c (part_of part)
  own_such = record { class = own.class_is; member = (large.all part.member).0 own.member_is.there }

  own_least : (other : Name × Name) → IsOwnPart program c other → is_gt (part_cmp (part_of part) other) ≡ false
  own_least other is =
      then_second (slice_cmp nat_cmp part.class other.0) (slice_cmp nat_cmp part.member other.1)
      (subst (λ (t : Name). slice_cmp nat_cmp part.class t ≡ Equal) (own.class_is ∙ sym is.class) (tied_itself (on_texts (λ (t : Name). t)) part.class))
      (own.member_is.least other.1 ((large.all other.1).1 is.member))

  lesser : (before : Option Part) → IsLeastSoFar program done before → IsLeastTooLarge program (done ++ c ∷ []) (part_of (lesser_of before part))
  lesser None none = record {
    such = own_part program done c (part_of part) own_such;
    least = λ other is. elim (narrowed program done c other is) [ inl old ↦ absurd (none other old) | inr new ↦ own_least other new ];
  }
  lesser (Some least) before = go (is_lt (part_cmp (part_of least) (part_of part))) refl where
    go : (b : Bool) → is_lt (part_cmp (part_of least) (part_of part)) ≡ b → IsLeastTooLarge program (done ++ c ∷ []) (part_of (if b then least else part))
    go true e = record {
      such = widened program done c (part_of least) before.such;
      least = λ other is. elim (narrowed program done c other is) [
        | inl old ↦ before.least other old
        | inr new ↦ upto part_cmp_total (part_of least) (part_of part) other (not_above (part_cmp (part_of least) (part_of part)) e) (own_least other new)
      ];
    }
    go false e = record {
      such = own_part program done c (part_of part) own_such;
      least = λ other is. elim (narrowed program done c other is) [
        | inl old ↦ upto part_cmp_total (part_of part) (part_of least) other
            (turned (part_cmp (part_of least) (part_of part)) (part_cmp (part_of part) (part_of least)) (part_cmp_total.antisymm (part_of part) (part_of least)) e)
            (before.least other old)
        | inr new ↦ own_least other new
      ];
    }

  pub progress_large : (before now : Progress) → now.least ≡ Some (lesser_of before.least part) → IsProgress program done before → IsProgress program (done ++ c ∷ []) now
  progress_large before now e is = record {
    least = subst (IsLeastSoFar program (done ++ c ∷ [])) (sym e) (lesser before.least is.least);
    files = λ none. absurd (let same : None ≡ Some (lesser_of before.least part) = sym none ∙ e in cc);
  }

-- ---- a file that is written

module _ (program : Program) (done : List ClassFile) (c : ClassFile) (f : RewrittenFile) (own : IsFileOf program c f) where
  fits : (part : Name × Name) → IsOwnPart program c part → ⊥
  fits part is = elim is.member [ inl class ↦ own.written.class_fits class.0 | inr method ↦ own.written.methods_fit (method.0, method.1, method.2) ]

  still_least : (least : Option Part) → IsLeastSoFar program done least → IsLeastSoFar program (done ++ c ∷ []) least
  still_least None none = λ part is. elim (narrowed program done c part is) [ inl old ↦ none part old | inr new ↦ fits part new ]
  still_least (Some part) before = record {
    such = widened program done c (part_of part) before.such;
    least = λ other is. elim (narrowed program done c other is) [ inl old ↦ before.least other old | inr new ↦ absurd (fits other new) ];
  }

  pub progress_written : (before now : Progress) → now.least ≡ before.least → now.files.items ≡ before.files.items ++ f ∷ [] → IsProgress program done before → IsProgress program (done ++ c ∷ []) now
  progress_written before now e files is = record {
    least = subst (IsLeastSoFar program (done ++ c ∷ [])) (sym e) (still_least before.least is.least);
    files = λ none. subst (AreSideBySide (IsFileOf program) (done ++ c ∷ [])) (sym files) (side_more (IsFileOf program) done before.files.items c f (is.files (sym e ∙ none)) own);
  }

pub progress_none : (program : Program) (now : Progress) → now.least ≡ None → now.files.items ≡ [] → IsProgress program [] now
progress_none program now e files = record {
  least = subst (IsLeastSoFar program []) (sym e) (λ part is. contains_none is.file is.there);
  files = λ none. subst (AreSideBySide (IsFileOf program) []) (sym files) tt;
}

-- ---- the classes so far

module _ (program : Program) (views : List ClassView) where
  pub progress_more : (i : ℕ) (x : ClassView) (before now : Progress) → i < length views → x ≡ get_or views i x
      → ((done : List ClassFile) → IsProgress program done before → IsProgress program (done ++ class_of x ∷ []) now)
      → IsProgress program (map class_of (take i views)) before → IsProgress program (map class_of (take (i + 1) views)) now
  progress_more i x before now lt is advances h =
      subst (λ (files : List ClassFile). IsProgress program files now)
      (sym (ap (map class_of) (take_more views i x lt ∙ ap (λ (y : ClassView). take i views ++ y ∷ []) (sym is)) ∙ map-append class_of (take i views) (x ∷ [])))
      (advances (map class_of (take i views)) h)

  pub progress_all : (i : ℕ) (now : Progress) → length views ≤ i → IsProgress program (map class_of (take i views)) now → IsProgress program (map class_of views) now
  progress_all i now past h = subst (λ (list : List ClassView). IsProgress program (map class_of list) now) (take_all i views past) h

-- all of it fits, or not
pub set_rewritten : (program : Program) (files : List ClassFile) (now : Progress) (made : List RewrittenFile) → IsProgress program files now → now.least ≡ None → IsPermutation now.files.items made → IsSorted file_cmp made
    → AreRewritten program files made
set_rewritten program files now made is none moved in_order = record { set = now.files.items; each = is.files none; moved = moved; in_order = in_order }

pub set_large : (program : Program) (files : List ClassFile) (now : Progress) (part : Part) → IsProgress program files now → now.least ≡ Some part → IsLeastTooLarge program files (part.class, part.member)
set_large program files now part is e = subst (IsLeastSoFar program files) e is.least
