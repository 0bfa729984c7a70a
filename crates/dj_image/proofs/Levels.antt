-- Arrays of rows in order: those of fewer dimensions first, and those of as many in the order of what their elements are.
use Rattle.std.proofs.Common.{◌≡◌, ℕ, zero, suc, ◌+◌, ◌<◌, ◌≤◌, ◌⊎◌, ◌&&◌, Bool, true, false, cond, List, [], ◌∷◌, ◌++◌, map, take, length, get_or, replicate, Option, Some, None, refl, sym, ap, subst, ◌∙◌, inl, inr, arith, Contains, IsTrue, Ordering}
use Rattle.std.specs.declared.cmp.Ordering.TheVariants.{Less, Equal, Greater}
use Rattle.std.specs.Prelude.{nat_le, if◌then◌else◌}
use Rattle.std.specs.Option.{option_to_list}
use Rattle.std.specs.Global.{Vec}
use Rattle.std.specs.Ordering.{nat_cmp, is_eq, is_lt, ordering_reverse}
use Rattle.std.specs.Cmp.Lexicographic.{slice_cmp}
use Rattle.std.specs.List.{AllByRecursion, filter_map, cons_option}
use Rattle.std.specs.List.Sorted.{IsStrictlySortedBy}
use Rattle.std.specs.Map.{keys_of, values_of}
use Rattle.std.proofs.lemmas.Bool.{cases_lt}
use Rattle.std.proofs.lemmas.Bool.Decides.{nat_tests}
use Rattle.std.proofs.lemmas.Cmp.{nat_list_cmp_total, tied_itself}
use Rattle.std.proofs.lemmas.List.{map-append, append_assoc, append-nil, take_all}
use Rattle.std.proofs.lemmas.List.Elements.{Contains-append_left, Contains-append_right, Contains-append_cases}
use Rattle.std.proofs.lemmas.Option.{none-some, same_Some}
use Rattle.dj_names.specs.declared.descriptor.Base.TheVariants as bases
use Rattle.dj_names.specs.declared.descriptor.Of.{Of}
use Rattle.dj_names.specs.declared.descriptor.Of.TheVariants as ofs
use Rattle.dj_names.specs.declared.descriptor.Ty.{Ty}
use Rattle.dj_names.specs.trusted.Descriptors.{of_text, type_text}
use Rattle.dj_model.specs.trusted.Program.{Program}
use Rattle.dj_model.specs.trusted.Libraries.{is_name_before}
use Rattle.dj_class_table.proofs.Orders.{is_name_before-cmp}
use Rattle.dj_numbering.proofs.Reported.{element_reported}
use Rattle.dj_numbering.specs.declared.shapes.Shape.{Shape}
use Rattle.dj_numbering.specs.Shapes.{AreElements, shape_in, shape_type}
use Rattle.dj_numbering.specs.Typed.{is_known_of, arrays_rise}
use Rattle.dj_image.specs.ArrayRows.{RowsRiseStrictly, IsKeyed, AreAllKnown, at_level, level, levels}
use Rattle.dj_image.proofs.RowFacts.{Entries, found_in, order, both}
use Rattle.dj_image.proofs.Wholes.{filter_map_more}
use Rattle.dj_image.proofs.Members.{member_first, member_none, member_cases, member_of_filter_map, member_filter_map}

-- each key is below those after it
abbrev pub Ordered : Entries → Type 0
Ordered [] = Unit {0}
Ordered (e ∷ es) = AllByRecursion (λ (other : Vec ℕ). order e.0 other ≡ Less) (keys_of es) × Ordered es

pub ordered_from : (es : Entries) → RowsRiseStrictly (keys_of es) → Ordered es
unfolding IsStrictlySortedBy
ordered_from [] up = tt
ordered_from (e ∷ es) up = (up.0, ordered_from es up.1)

-- ---- levels of types

abbrev pub type_at_level : ℕ → Ty → Option Ty
type_at_level dims top = if nat_le dims top.dims then Some (record { dims = dims; of = top.of }) else None

abbrev pub type_levels : ℕ → List Ty → List Ty
type_levels zero tops = []
type_levels (suc dims) tops = type_levels dims tops ++ filter_map (type_at_level (suc dims)) tops

level_types : (program : Program) (dims : ℕ) (tops : List Ty) → AreAllKnown program tops → map (shape_type program) (level dims (map (shape_in program) tops)) ≡ filter_map (type_at_level dims) tops
level_types program dims [] known = refl
level_types program dims (top ∷ tops) known = by (nat_le dims top.dims) (level_types program dims tops known.1) where
  by : (b : Bool) → map (shape_type program) (level dims (map (shape_in program) tops)) ≡ filter_map (type_at_level dims) tops
      → map (shape_type program) (cons_option (if b then Some (record { dims = dims; of = (shape_in program top).of }) else None) (level dims (map (shape_in program) tops))) ≡ cons_option (if b then Some (record { dims = dims; of = top.of }) else None) (filter_map (type_at_level dims) tops)
  by true rest =
      ap (λ (of : Of). record { dims = dims; of = of } ∷ map (shape_type program) (level dims (map (shape_in program) tops))) ((element_reported program top.of known.0).0)
      ∙ ap (λ (more : List Ty). record { dims = dims; of = top.of } ∷ more) rest
  by false rest = rest

pub levels_types : (program : Program) (dims : ℕ) (tops : List Ty) → AreAllKnown program tops → map (shape_type program) (levels dims (map (shape_in program) tops)) ≡ type_levels dims tops
levels_types program zero tops known = refl
levels_types program (suc dims) tops known =
    map-append (shape_type program) (levels dims (map (shape_in program) tops)) (level (suc dims) (map (shape_in program) tops))
    ∙ ap (λ (more : List Ty). more ++ map (shape_type program) (level (suc dims) (map (shape_in program) tops))) (levels_types program dims tops known)
    ∙ ap (λ (more : List Ty). type_levels dims tops ++ more) (level_types program (suc dims) tops known)

-- ---- the classes of their elements are there

elements_append : (program : Program) (xs ys : List Shape) → AreElements program xs → AreElements program ys → AreElements program (xs ++ ys)
elements_append program [] ys all more = more
elements_append program (x ∷ xs) ys all more = (all.0, elements_append program xs ys all.1 more)

elements_level : (program : Program) (dims : ℕ) (tops : List Ty) → AreAllKnown program tops → AreElements program (level dims (map (shape_in program) tops))
elements_level program dims [] known = tt
elements_level program dims (top ∷ tops) known = by (nat_le dims top.dims) (elements_level program dims tops known.1) where
  by : (b : Bool) → AreElements program (level dims (map (shape_in program) tops))
      → AreElements program (cons_option (if b then Some (record { dims = dims; of = (shape_in program top).of }) else None) (level dims (map (shape_in program) tops)))
  by true rest = ((element_reported program top.of known.0).1, rest)
  by false rest = rest

pub elements_levels : (program : Program) (dims : ℕ) (tops : List Ty) → AreAllKnown program tops → AreElements program (levels dims (map (shape_in program) tops))
elements_levels program zero tops known = tt
elements_levels program (suc dims) tops known =
    elements_append program (levels dims (map (shape_in program) tops)) (level (suc dims) (map (shape_in program) tops)) (elements_levels program dims tops known) (elements_level program (suc dims) tops known)

-- ---- members

-- of one of the tops, and of at most this many dimensions
pub record IsUnder (dims : ℕ) (tops : List Ty) (ty : Ty) : Type 0 where
  pub top : Ty
  pub there : Contains tops top
  pub some : 1 ≤ ty.dims
  pub few : ty.dims ≤ dims
  pub within : ty.dims ≤ top.dims
  pub same : ty.of ≡ top.of

pub of_level : (dims : ℕ) (top ty : Ty) → type_at_level dims top ≡ Some ty → (ty ≡ record { dims = dims; of = top.of }) × (dims ≤ top.dims)
of_level dims top ty is = by (nat_le dims top.dims) refl is where
  le_from : (a b : ℕ) → nat_le a b ≡ true → a ≤ b
  le_from a b e = grind (arith, nat_tests)

  by : (b : Bool) → nat_le dims top.dims ≡ b → (if b then Some (record { dims = dims; of = top.of }) else None) ≡ Some ty → (ty ≡ record { dims = dims; of = top.of }) × (dims ≤ top.dims)
  by true le e = (sym (same_Some (record { dims = dims; of = top.of }) ty e), le_from dims top.dims le)
  by false le e = absurd (none-some ty e)

pub under_levels : (dims : ℕ) (tops : List Ty) (ty : Ty) → Contains (type_levels dims tops) ty → IsUnder dims tops ty
under_levels zero tops ty m = absurd (member_none ty m)
under_levels (suc dims) tops ty m = elim (Contains-append_cases (type_levels dims tops) (filter_map (type_at_level (suc dims)) tops) ty m) [
  | inl before ↦ let under = under_levels dims tops ty before in
      record { top = under.top; there = under.there; some = under.some; few = omega (arith, under.few); within = under.within; same = under.same }
  | inr own ↦ let found = member_of_filter_map (type_at_level (suc dims)) tops ty own in
      let is = of_level (suc dims) found.0 ty found.2 in
      let d : ty.dims ≡ suc dims = ap (λ (t : Ty). t.dims) is.0 in
      record { top = found.0; there = found.1; some = omega (arith, d); few = omega (arith, d); within = omega (arith, d, is.1); same = ap (λ (t : Ty). t.of) is.0 }
]

at_own_level : (top ty : Ty) → ty.dims ≤ top.dims → ty.of ≡ top.of → type_at_level ty.dims top ≡ Some ty
at_own_level top ty within same = by (nat_le ty.dims top.dims) (le_to ty.dims top.dims within) where
  le_to : (a b : ℕ) → a ≤ b → nat_le a b ≡ true
  le_to a b le = grind (arith, nat_tests)

  by : (b : Bool) → b ≡ true → (if b then Some (record { dims = ty.dims; of = top.of }) else None) ≡ Some ty
  by true e = ap (λ (of : Of). Some (record { dims = ty.dims; of = of })) (sym same)
  by false e = absurd cc

pub levels_under : (dims : ℕ) (tops : List Ty) (ty : Ty) → IsUnder dims tops ty → Contains (type_levels dims tops) ty
levels_under zero tops ty under = absurd (omega (arith, under.some, under.few))
levels_under (suc dims) tops ty under = elim (cases_lt dims ty.dims) [
  | inl above ↦ let d : ty.dims ≡ suc dims = omega (arith, above, under.few) in
      Contains-append_right (type_levels dims tops) (filter_map (type_at_level (suc dims)) tops) ty
      (member_filter_map (type_at_level (suc dims)) tops under.top ty under.there (subst (λ (n : ℕ). type_at_level n under.top ≡ Some ty) d (at_own_level under.top ty under.within under.same)))
  | inr below ↦ Contains-append_left (type_levels dims tops) (filter_map (type_at_level (suc dims)) tops) ty
      (levels_under dims tops ty (record { top = under.top; there = under.there; some = under.some; few = omega (arith, below); within = under.within; same = under.same }))
]

-- ---- the texts of descriptors

abbrev IsBelow : Ty → Ty → Type 0
IsBelow a b = slice_cmp nat_cmp (type_text a) (type_text b) ≡ Less

-- a letter is below a bracket
text_less : (a b : ℕ) (x y : Of) → a < b → slice_cmp nat_cmp (replicate a 91 ++ of_text x) (replicate b 91 ++ of_text y) ≡ Less
text_less a zero x y lt = absurd (omega (arith, lt))
text_less zero (suc b) (ofs.Base bases.Boolean) y lt = refl
text_less zero (suc b) (ofs.Base bases.Byte) y lt = refl
text_less zero (suc b) (ofs.Base bases.Char) y lt = refl
text_less zero (suc b) (ofs.Base bases.Short) y lt = refl
text_less zero (suc b) (ofs.Base bases.Int) y lt = refl
text_less zero (suc b) (ofs.Base bases.Long) y lt = refl
text_less zero (suc b) (ofs.Base bases.Float) y lt = refl
text_less zero (suc b) (ofs.Base bases.Double) y lt = refl
text_less zero (suc b) (ofs.Class name) y lt = refl
text_less (suc a) (suc b) x y lt = text_less a b x y (omega (arith, lt))

text_same : (dims : ℕ) (x y : List ℕ) → slice_cmp nat_cmp (replicate dims 91 ++ x) (replicate dims 91 ++ y) ≡ slice_cmp nat_cmp x y
text_same zero x y = refl
text_same (suc dims) x y = text_same dims x y

-- ---- they rise

abbrev Rises : List Ty → Type 0
Rises [] = Unit {0}
Rises (t ∷ ts) = ((u : Ty) → Contains ts u → IsBelow t u) × Rises ts

rises_append : (xs ys : List Ty) → Rises xs → Rises ys → ((x y : Ty) → Contains xs x → Contains ys y → IsBelow x y) → Rises (xs ++ ys)
rises_append [] ys first second across = second
rises_append (x ∷ xs) ys first second across = (
  λ u m. elim (Contains-append_cases xs ys u m) [ inl own ↦ first.0 u own | inr other ↦ across x u (member_first x xs) other ],
  rises_append xs ys first.1 second (λ a b m n. across a b (Contains-append_right (x ∷ []) xs a m) n),
)

-- the key of a row is below those of the others
top_less : (key : Vec ℕ) (es : Entries) → AllByRecursion IsKeyed es → AllByRecursion (λ (other : Vec ℕ). order key other ≡ Less) (keys_of es) → (t : Ty) → Contains (values_of es) t → slice_cmp nat_cmp key.items (of_text t.of) ≡ Less
top_less key [] keyed up t m = absurd (member_none t m)
top_less key (e ∷ es) keyed up t m = elim (member_cases e.1 (values_of es) t m) [
  | inl same ↦ ap (slice_cmp nat_cmp key.items) (ap (λ (v : Ty). of_text v.of) (sym same) ∙ keyed.0.0) ∙ up.0
  | inr later ↦ top_less key es keyed.1 up.1 t later
]

level_below : (dims : ℕ) (e : Vec ℕ × Ty) (es : Entries) → IsKeyed e → AllByRecursion IsKeyed es → AllByRecursion (λ (other : Vec ℕ). order e.0 other ≡ Less) (keys_of es)
    → (u : Ty) → Contains (filter_map (type_at_level dims) (values_of es)) u → IsBelow (record { dims = dims; of = e.1.of }) u
level_below dims e es own keyed up u m =
    let found = member_of_filter_map (type_at_level dims) (values_of es) u m in
    let is = of_level dims found.0 u found.2 in
    subst (λ (t : Ty). IsBelow (record { dims = dims; of = e.1.of }) t) (sym is.0)
    (text_same dims (of_text e.1.of) (of_text found.0.of) ∙ ap (λ (text : List ℕ). slice_cmp nat_cmp text (of_text found.0.of)) own.0 ∙ top_less e.0 es keyed up found.0 found.1)

rises_level : (dims : ℕ) (es : Entries) → AllByRecursion IsKeyed es → Ordered es → Rises (filter_map (type_at_level dims) (values_of es))
rises_level dims [] keyed up = tt
rises_level dims (e ∷ es) keyed up = by (nat_le dims e.1.dims) (rises_level dims es keyed.1 up.1) where
  by : (b : Bool) → Rises (filter_map (type_at_level dims) (values_of es)) → Rises (cons_option (if b then Some (record { dims = dims; of = e.1.of }) else None) (filter_map (type_at_level dims) (values_of es)))
  by true rest = (level_below dims e es keyed.0 keyed.1 up.0, rest)
  by false rest = rest

rises_levels : (dims : ℕ) (es : Entries) → AllByRecursion IsKeyed es → Ordered es → Rises (type_levels dims (values_of es))
rises_levels zero es keyed up = tt
rises_levels (suc dims) es keyed up =
    rises_append (type_levels dims (values_of es)) (filter_map (type_at_level (suc dims)) (values_of es)) (rises_levels dims es keyed up) (rises_level (suc dims) es keyed up) across where
      across : (x y : Ty) → Contains (type_levels dims (values_of es)) x → Contains (filter_map (type_at_level (suc dims)) (values_of es)) y → IsBelow x y
      across x y m n =
          let under = under_levels dims (values_of es) x m in
          let found = member_of_filter_map (type_at_level (suc dims)) (values_of es) y n in
          let d : y.dims ≡ suc dims = ap (λ (t : Ty). t.dims) ((of_level (suc dims) found.0 y found.2).0) in
          text_less x.dims y.dims x.of y.of (omega (arith, under.few, d))

rise_test : (ts : List Ty) → Rises ts → IsTrue (arrays_rise ts)
rise_test [] rises = refl
rise_test (t ∷ []) rises = refl
rise_test (t ∷ (u ∷ ts)) rises =
    both (is_name_before (type_text t) (type_text u)) (arrays_rise (u ∷ ts)) (is_name_before-cmp (type_text t) (type_text u) ∙ ap is_lt (rises.0 u (member_first u ts))) (rise_test (u ∷ ts) rises.1)

pub levels_rise : (dims : ℕ) (es : Entries) → AllByRecursion IsKeyed es → Ordered es → IsTrue (arrays_rise (type_levels dims (values_of es)))
levels_rise dims es keyed up = rise_test (type_levels dims (values_of es)) (rises_levels dims es keyed up)

-- ---- the row of a top

top_found_by : (t : Ty) (e : Vec ℕ × Ty) (later : Option Ty) (r : Ordering) → ((r ≡ Equal) × (e.1 ≡ t)) ⊎ ((r ≡ Greater) × (later ≡ Some t)) → cond (is_eq r) (Some e.1) later ≡ Some t
top_found_by t e later r (inl own) = ap (λ (o : Ordering). cond (is_eq o) (Some e.1) later) own.0 ∙ ap Some own.1
top_found_by t e later r (inr more) = ap (λ (o : Ordering). cond (is_eq o) (Some e.1) later) more.0 ∙ more.1

pub top_found : (es : Entries) → AllByRecursion IsKeyed es → Ordered es → (t : Ty) → Contains (values_of es) t → found_in es (of_text t.of) ≡ Some t
top_found [] keyed up t m = absurd (member_none t m)
top_found (e ∷ es) keyed up t m = top_found_by t e (found_in es (of_text t.of)) (slice_cmp nat_cmp (of_text t.of) e.0.items) (elim (member_cases e.1 (values_of es) t m) [
  | inl same ↦ inl (ap (λ (text : List ℕ). slice_cmp nat_cmp text e.0.items) (ap (λ (v : Ty). of_text v.of) (sym same) ∙ keyed.0.0) ∙ tied_itself nat_list_cmp_total e.0.items, same)
  | inr later ↦ inr (nat_list_cmp_total.antisymm (of_text t.of) e.0.items ∙ ap ordering_reverse (top_less e.0 es keyed.1 up.0 t later), top_found es keyed.1 up.1 t later)
])

-- ---- more and more of them

level_step : (dims : ℕ) (tops : List Shape) (i : ℕ) (d top : Shape) (start old : List Shape) → i < length tops → top ≡ get_or tops i d → old ≡ start ++ level dims (take i tops)
    → old ++ option_to_list (at_level dims top) ≡ start ++ level dims (take (i + 1) tops)
level_step dims tops i d top start old within is before =
    ap (λ (xs : List Shape). xs ++ option_to_list (at_level dims top)) before
    ∙ append_assoc start (level dims (take i tops)) (option_to_list (at_level dims top))
    ∙ ap (λ (t : Shape). start ++ (level dims (take i tops) ++ option_to_list (at_level dims t))) is
    ∙ ap (λ (xs : List Shape). start ++ xs) (sym (filter_map_more (at_level dims) tops i d within))

pub level_pushed : (dims : ℕ) (tops : List Shape) (i : ℕ) (d top : Shape) (start old new : List Shape) → i < length tops → top ≡ get_or tops i d → old ≡ start ++ level dims (take i tops)
    → dims ≤ top.dims → new ≡ old ++ record { dims = dims; of = top.of } ∷ [] → new ≡ start ++ level dims (take (i + 1) tops)
level_pushed dims tops i d top start old new within is before le now =
    now ∙ ap (λ (b : Bool). old ++ option_to_list (if b then Some (record { dims = dims; of = top.of }) else None)) (sym (tested dims top.dims le)) ∙ level_step dims tops i d top start old within is before where
      tested : (a b : ℕ) → a ≤ b → nat_le a b ≡ true
      tested a b le = grind (arith, nat_tests)

pub level_skipped : (dims : ℕ) (tops : List Shape) (i : ℕ) (d top : Shape) (start old : List Shape) → i < length tops → top ≡ get_or tops i d → old ≡ start ++ level dims (take i tops)
    → top.dims < dims → old ≡ start ++ level dims (take (i + 1) tops)
level_skipped dims tops i d top start old within is before more =
    sym (append-nil old) ∙ ap (λ (b : Bool). old ++ option_to_list (if b then Some (record { dims = dims; of = top.of }) else None)) (sym (tested dims top.dims more)) ∙ level_step dims tops i d top start old within is before where
      tested : (a b : ℕ) → b < a → nat_le a b ≡ false
      tested a b above = grind (arith, nat_tests)

pub level_all : (dims : ℕ) (tops : List Shape) (i : ℕ) (start old : List Shape) → length tops ≤ i → old ≡ start ++ level dims (take i tops) → old ≡ start ++ level dims tops
level_all dims tops i start old past is = is ∙ ap (λ (xs : List Shape). start ++ level dims xs) (take_all i tops past)

pub levels_more : (below dims : ℕ) (tops old new : List Shape) → dims ≡ below + 1 → old ≡ levels below tops → new ≡ old ++ level dims tops → new ≡ levels (below + 1) tops
levels_more below dims tops old new is before now =
    let more : below + 1 ≡ suc below = omega arith in
    now ∙ ap (λ (xs : List Shape). xs ++ level dims tops) before ∙ ap (λ (n : ℕ). levels below tops ++ level n tops) (is ∙ more) ∙ ap (λ (n : ℕ). levels n tops) (sym more)
