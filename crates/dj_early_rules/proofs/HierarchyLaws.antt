-- The lines of the rule HIERARCHY.
use Rattle.std.proofs.Common.{◌≡◌, ℕ, ◌+◌, ◌⊎◌, ◌↔◌, Bool, List, map, length, Some, refl, sym, ap, ◌∙◌, subst, inl, inr, Contains, IsTrue, slice_get, Bor, Option, None, option_map, option_copied}
use Rattle.std.proofs.lemmas.Option.{slice_get_within, slice_get-get_or}
use Rattle.dj_edge.specs.trusted.Held.{File}
use Rattle.dj_labels.proofs.Lists.{contains_at}
use Rattle.dj_class.specs.trusted.ClassFile.{ClassFile}
use Rattle.dj_report.specs.declared.report.Violation.{Violation}
use Rattle.dj_report.specs.declared.report.PathFile.{PathFile}
use Rattle.dj_report.specs.trusted.Lines.{file_line}
use Rattle.dj_report.specs.Lines.{Adds}
use Rattle.dj_report.proofs.Adding.{adds_same, adds_both, contains_map, from_contains_map}
use Rattle.dj_file_rules.specs.Views.{path_file_view}
use Rattle.dj_library.specs.trusted.Heads.{Head}
use Rattle.dj_hierarchy_rule.specs.declared.head.ClassHead.{ClassHead}
use Rattle.dj_hierarchy_rule.specs.Hierarchy.{Stands}
use Rattle.dj_hierarchy_rule.specs.Judged.{AreJudged}
use Rattle.dj_hierarchy_rule.specs.Views.{text_of, head_view}
use Rattle.dj_hierarchy_rule.proofs.Alike.{IsAlike, HaveAlike, alike_itself, alike_back, alike_violate}
use Rattle.dj_early_rules.specs.declared.hierarchy.Owner.{Owner}
use Rattle.dj_early_rules.specs.trusted.Malformed.{IsGood}
use Rattle.dj_early_rules.specs.trusted.Heads.{head_of, StandsAmong}
use Rattle.dj_early_rules.specs.trusted.Rules.{IsHierarchyLine}
use Rattle.dj_early_rules.specs.Gathered.{IsHeadOf}
use Rattle.dj_early_rules.specs.Kept.{IsMarkedAt, IsMarkedLine, IsOwnersLine, IsOwned, AreOwned}
use Rattle.dj_early_rules.proofs.DoubleLaws.{more_below, beside, from_slice_get_map, to_slice_get_map}

-- ---- lines of marks

some_owner : (a b : Owner) → Some a ≡ Some b → a ≡ b
some_owner a b e = cc

some_mark : (a b : Bool) → Some a ≡ Some b → a ≡ b
some_mark a b e = cc

abbrev IsHere : Owner → Bool → Violation → Type 0
IsHere owner mark v = (IsTrue mark ⊎ IsTrue owner.repeats) × (v ≡ file_line owner.path.now 6)

-- the line of one place
marked_here : (owners : List Owner) (marks : List Bool) (i : ℕ) (owner : Owner) (mark : Bool) (v : Violation) → slice_get owners i ≡ Some owner → slice_get marks i ≡ Some mark → IsHere owner mark v ↔ IsMarkedAt owners marks v i
marked_here owners marks i owner mark v own marked = (
  λ (such, line). record { owner = owner; own = own; mark = mark; marked = marked; such = such; line = line },
  λ at.
      let same = some_owner at.owner owner (sym at.own ∙ own) in
      let same_mark = some_mark at.mark mark (sym at.marked ∙ marked) in (
        elim at.such [ inl t ↦ inl (subst (λ (b : Bool). IsTrue b) same_mark t) | inr t ↦ inr (subst (λ (o : Owner). IsTrue o.repeats) same t) ],
        at.line ∙ ap (λ (o : Owner). file_line o.path.now 6) same,
      ),
)

pub marked_more : (owners : List Owner) (marks : List Bool) (i : ℕ) (owner : Owner) (mark : Bool) (a b c : List Violation) → slice_get owners i ≡ Some owner → slice_get marks i ≡ Some mark
    → Adds (IsMarkedLine i owners marks) a b → Adds (λ v. (IsTrue mark ⊎ IsTrue owner.repeats) × (v ≡ file_line owner.path.now 6)) b c → Adds (IsMarkedLine (i + 1) owners marks) a c
marked_more owners marks i owner mark a b c own marked before here =
    adds_same (λ v. IsMarkedLine i owners marks v ⊎ IsHere owner mark v) (IsMarkedLine (i + 1) owners marks) a c (λ v.
    let below = more_below (IsMarkedAt owners marks v) i in
    let this = marked_here owners marks i owner mark v own marked in (
      λ any. below.1 (elim any [ inl old ↦ inl old | inr line ↦ inr (this.0 line) ]),
      λ all. elim (below.0 all) [ inl old ↦ inl old | inr at ↦ inr (this.1 at) ],
    )) (adds_both (IsMarkedLine i owners marks) (IsHere owner mark) a b c before here)

-- marked heads as those that violate the rule
to_owners : (heads : List Head) (owners : List Owner) (marks : List Bool) (v : Violation) → length owners ≡ length heads → AreJudged heads marks → IsMarkedLine (length owners) owners marks v → IsOwnersLine heads owners v
to_owners heads owners marks v same judged (place, lt, at) =
    let head = beside owners heads place at.owner (sym same) at.own in
    record {
      place = place;
      head = head.0;
      stands = head.1;
      owner = at.owner;
      own = at.own;
      such = elim at.such [ inl t ↦ inl ((judged.each place head.0 at.mark head.1 at.marked).0 t) | inr t ↦ inr t ];
      line = at.line;
    }

from_owners : (heads : List Head) (owners : List Owner) (marks : List Bool) (v : Violation) → length owners ≡ length heads → AreJudged heads marks → IsOwnersLine heads owners v → IsMarkedLine (length owners) owners marks v
from_owners heads owners marks v same judged is =
    let mark = beside heads marks is.place is.head judged.all is.stands in (
      is.place,
      slice_get_within owners is.place is.owner is.own,
      record {
        owner = is.owner;
        own = is.own;
        mark = mark.0;
        marked = mark.1;
        such = elim is.such [ inl bad ↦ inl ((judged.each is.place is.head mark.0 is.stands mark.1).1 bad) | inr t ↦ inr t ];
        line = is.line;
      },
    )

pub owners_lines : (heads : List Head) (owners : List Owner) (marks : List Bool) (a b : List Violation) → length owners ≡ length heads → AreJudged heads marks → Adds (IsMarkedLine (length owners) owners marks) a b → Adds (IsOwnersLine heads owners) a b
owners_lines heads owners marks a b same judged =
    adds_same (IsMarkedLine (length owners) owners marks) (IsOwnersLine heads owners) a b (λ v. (to_owners heads owners marks v same judged, from_owners heads owners marks v same judged))

-- ---- the heads of files

same_superclass : (superclass : Option (Bor (List ℕ))) → option_map text_of superclass ≡ option_copied superclass
same_superclass None = refl
same_superclass (Some name) = refl

head_alike : (c : ClassFile) (head : ClassHead) → IsHeadOf c head → IsAlike (head_view head) (head_of c)
head_alike c head is = record { name = is.name; flags = is.flags; superclass = same_superclass head.superclass ∙ is.superclass; interfaces = is.interfaces }

some_head : (a b : ClassHead) → Some a ≡ Some b → a ≡ b
some_head a b e = cc

-- what holds of the head at a place
owned_at : (files : List PathFile) (heads : List ClassHead) (owners : List Owner) → AreOwned files heads owners → (place : ℕ) (head : ClassHead) (owner : Owner) → slice_get heads place ≡ Some head → slice_get owners place ≡ Some owner
    → (file : PathFile) × Contains files file × (c : ClassFile) × IsOwned file c head owner
owned_at files heads owners are place head owner stands own =
    let at = are.each place (slice_get_within heads place head stands) in
    let is : IsOwned at.file at.class head at.owns.owner = subst (λ (h : ClassHead). IsOwned at.file at.class h at.owns.owner) (some_head at.owns.head head (sym at.owns.stands ∙ stands)) at.owns.is in
    (at.file, at.among, at.class, subst (λ (o : Owner). IsOwned at.file at.class head o) (some_owner at.owns.owner owner (sym at.owns.own ∙ own)) is)

file_good : (file : File) (seen : PathFile) (c : ClassFile) → path_file_view seen ≡ file → IsGood file.1 c → IsGood seen.bytes.now c
file_good file seen c same good = subst (λ (f : File). IsGood f.1 c) (sym same) good

-- the heads that the code has, and the classes of the files
to_classes : (files : List PathFile) (heads : List ClassHead) (owners : List Owner) → AreOwned files heads owners → HaveAlike (Stands (map head_view heads)) (StandsAmong (map path_file_view files))
to_classes files heads owners are h there = elim there [
  | inl own ↦
      let seen = from_contains_map head_view heads h own in
      to_class seen.0 h seen.1 seen.2
  | inr library ↦ (h, inr library, alike_itself h)
] where
  to_class : (head : ClassHead) (h : Head) → Contains heads head → head_view head ≡ h → (other : Head) × StandsAmong (map path_file_view files) other × IsAlike h other
  to_class head h (place, lt, e) is =
      let stands : slice_get heads place ≡ Some head = slice_get-get_or heads place head lt ∙ ap Some e in
      let owner = beside heads owners place head are.all stands in
      let at = owned_at files heads owners are place head owner.0 stands owner.1 in
      let file = at.0 in
      let class = at.2 in
      let owned = at.3 in
      (head_of class, inl (path_file_view file, contains_map path_file_view files file at.1, class, owned.good, refl), subst (λ (x : Head). IsAlike x (head_of class)) is (head_alike class head owned.head_is))

from_classes : (files : List PathFile) (heads : List ClassHead) (owners : List Owner) → AreOwned files heads owners → HaveAlike (StandsAmong (map path_file_view files)) (Stands (map head_view heads))
from_classes files heads owners are h there = elim there [
  | inl (file, own, c, good, is) ↦
      let seen = from_contains_map path_file_view files file own in
      let at = are.whole seen.0 c seen.1 (file_good file seen.0 c seen.2 good) in (
        head_view at.1.head,
        inl (contains_map head_view heads at.1.head (contains_at at.0 heads at.1.head at.1.stands)),
        subst (λ (x : Head). IsAlike x (head_view at.1.head)) (sym is) (alike_back (head_view at.1.head) (head_of c) (head_alike c at.1.head at.1.is.head_is)),
      )
  | inr library ↦ (h, inr library, alike_itself h)
]

-- ---- the lines of the rule

to_hierarchy : (files : List PathFile) (heads : List ClassHead) (owners : List Owner) → AreOwned files heads owners → (v : Violation) → IsOwnersLine (map head_view heads) owners v → IsHierarchyLine (map path_file_view files) v
to_hierarchy files heads owners are v is =
    let seen = from_slice_get_map head_view heads is.place is.head is.stands in
    let at = owned_at files heads owners are is.place seen.0 is.owner seen.1 is.own in
    let file = at.0 in
    let class = at.2 in
    let owned = at.3 in
    let alike : IsAlike is.head (head_of class) = subst (λ (x : Head). IsAlike x (head_of class)) seen.2 (head_alike class seen.0 owned.head_is) in
    record {
      file = path_file_view file;
      own = contains_map path_file_view files file at.1;
      class = class;
      good = owned.good;
      such = elim is.such [
        | inl bad ↦ inl ((alike_violate (Stands (map head_view heads)) (StandsAmong (map path_file_view files)) (to_classes files heads owners are) (from_classes files heads owners are) is.head (head_of class) alike).0 bad)
        | inr t ↦ inr (owned.reported.0 t)
      ];
      line = is.line ∙ ap (λ (p : List ℕ). file_line p 6) owned.path;
    }

from_hierarchy : (files : List PathFile) (heads : List ClassHead) (owners : List Owner) → AreOwned files heads owners → (v : Violation) → IsHierarchyLine (map path_file_view files) v → IsOwnersLine (map head_view heads) owners v
from_hierarchy files heads owners are v is =
    let seen = from_contains_map path_file_view files is.file is.own in
    let at = are.whole seen.0 is.class seen.1 (file_good is.file seen.0 is.class seen.2 is.good) in
    let head = at.1.head in
    record {
      place = at.0;
      head = head_view head;
      stands = to_slice_get_map head_view heads at.0 head at.1.stands;
      owner = at.1.owner;
      own = at.1.own;
      such = elim is.such [
        | inl bad ↦
            inl ((alike_violate (Stands (map head_view heads)) (StandsAmong (map path_file_view files)) (to_classes files heads owners are) (from_classes files heads owners are) (head_view head) (head_of is.class)
            (head_alike is.class head at.1.is.head_is)).1 bad)
        | inr repeats ↦ inr (at.1.is.reported.1 repeats)
      ];
      line = is.line ∙ ap (λ (f : File). file_line f.0 6) (sym seen.2) ∙ ap (λ (p : List ℕ). file_line p 6) (sym at.1.is.path);
    }

pub hierarchy_lines : (files : List PathFile) (heads : List ClassHead) (owners : List Owner) (a b : List Violation) → AreOwned files heads owners → Adds (IsOwnersLine (map head_view heads) owners) a b → Adds (IsHierarchyLine (map path_file_view files)) a b
hierarchy_lines files heads owners a b are =
    adds_same (IsOwnersLine (map head_view heads) owners) (IsHierarchyLine (map path_file_view files)) a b (λ v. (to_hierarchy files heads owners are v, from_hierarchy files heads owners are v))
