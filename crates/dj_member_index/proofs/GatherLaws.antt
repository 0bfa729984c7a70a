-- The rows of the members of classes, one after the other.
use Rattle.std.proofs.Common.{◌≡◌, ℕ, zero, suc, ◌+◌, ◌<◌, ◌≤◌, ◌⊎◌, List, [], ◌∷◌, ◌++◌, length, get_or, All, Some, IfSome, refl, sym, ap, ◌∙◌, subst, arith, inl, inr}
use Rattle.std.specs.Prelude.{slice_get, map}
use Rattle.std.specs.List.Sorted.{IsPermutation, IsNonDecreasingBy}
use Rattle.std.proofs.lemmas.Bool.{cases_lt}
use Rattle.std.proofs.lemmas.List.{length_push, get_or_append_left}
use Rattle.std.proofs.Math.Seq.{get_or-append_seam}
use Rattle.std.proofs.lemmas.List.Elements.{All-push, All-weaker, Contains-push, Contains-append_left}
use Rattle.std.proofs.lemmas.List.Sorted.{All-permutation, Contains-permutation}
use Rattle.dj_names.specs.trusted.Types.{Name}
use Rattle.dj_names.specs.declared.descriptor.Desc.{Desc}
use Rattle.dj_model.specs.trusted.Program.{Method, Field}
use Rattle.dj_declarations.specs.Texts.{text_in}
use Rattle.dj_declarations.specs.Named.{IsNamedBy}
use Rattle.dj_member_index.specs.declared.rows.MemberRow.{MemberRow}
use Rattle.dj_member_index.specs.DirectoryRows.{Named, method_named, field_named, Members, Numbers, Texts, number_in, Keep, AreDifferent, IsNumbered, key_of, Fits, IsRow, IsThere, AreSoFar, AreKnown, NumbersAll, IsRowBy, AreRows}

-- ---- one row

pub kept_row : (old new : Numbers) (members : Members) → Keep old new → (row : MemberRow) → IsRow old members row → IsRow new members row
kept_row old new members keep row is = record {
  name = is.name;
  text = is.text;
  desc = is.desc;
  there = is.there;
  spelled = is.spelled;
  name_is = keep is.name row.name is.name_is;
  desc_is = keep is.text row.desc is.desc_is;
  fits = is.fits;
}

there_more : (rows : List MemberRow) (row : MemberRow) (k p : ℕ) → IsThere rows k p → IsThere (rows ++ row ∷ []) k p
there_more rows row k p is = record {
  row = is.row;
  within = Contains-append_left rows (row ∷ []) is.row is.within;
  class_is = is.class_is;
  place_is = is.place_is;
}

pub none_so_far : (number : Numbers) (members : Members) → AreSoFar number members 0 0 []
none_so_far number members = record {
  each = λ k d lt. absurd (omega (arith, lt));
  whole = λ k p before lt. absurd (elim before [ inl less ↦ omega (arith, less) | inr (is, less) ↦ omega (arith, less) ]);
}

split_before : (k p class place : ℕ) → ((k < class) ⊎ ((k ≡ class) × (p < place + 1))) → ((k < class) ⊎ ((k ≡ class) × (p < place))) ⊎ ((k ≡ class) × (p ≡ place))
split_before k p class place (inl less) = inl (inl less)
split_before k p class place (inr (is, less)) = elim (cases_lt p place) [ inl under ↦ inl (inr (is, under)) | inr over ↦ inr (is, omega (arith, less, over)) ]

-- a row more
pub one_more : (number : Numbers) (members : Members) (class place : ℕ) (before after : List MemberRow) (row : MemberRow) → AreSoFar number members class place before → after ≡ before ++ row ∷ []
    → IsRow number members row → row.class ≡ class → row.place ≡ place → AreSoFar number members class (place + 1) after
one_more number members class place before after row far pushed is class_is place_is = record {
  each = subst (λ (rows : List MemberRow). All (IsRow number members) rows) (sym pushed) (All-push (IsRow number members) before row far.each is);
  whole = λ k p at lt. subst (λ (rows : List MemberRow). IsThere rows k p) (sym pushed) (elim (split_before k p class place at) [
    | inl earlier ↦ there_more before row k p (far.whole k p earlier lt)
    | inr (k_is, p_is) ↦ record {
      row = row;
      within = Contains-push before row;
      class_is = class_is ∙ sym k_is;
      place_is = place_is ∙ sym p_is;
    }
  ]);
}

-- all of a class
pub class_done : (number : Numbers) (members : Members) (class place : ℕ) (rows : List MemberRow) → length (members class) ≤ place → AreSoFar number members class place rows → AreSoFar number members (class + 1) 0 rows
class_done number members class place rows past far = record {
  each = far.each;
  whole = λ k p at lt. far.whole k p (by k p at lt) lt;
} where
  by : (k p : ℕ) → ((k < class + 1) ⊎ ((k ≡ class + 1) × (p < 0))) → p < length (members k) → (k < class) ⊎ ((k ≡ class) × (p < place))
  by k p (inr (is, none)) lt = absurd (omega (arith, none))
  by k p (inl less) lt = elim (cases_lt k class) [
    | inl under ↦ inl under
    | inr over ↦
        (let here : k ≡ class = omega (arith, less, over) in
        let count = ap (λ (n : ℕ). length (members n)) here in
        inr (here, omega (arith, lt, count, past)))
  ]

-- ---- the texts of a class

-- this many texts have numbers
pub record IsNumbering (old now : Texts) (texts : List Name) (count : ℕ) (known : List ℕ) : Type 0 where
  pub kept : Keep (number_in old) (number_in now)
  pub different : AreDifferent now
  pub long : length known ≡ count
  pub each : (k : ℕ) → k < count → number_in now (text_in texts k) ≡ Some (get_or known k 0)

pub none_numbered : (old : Texts) (texts : List Name) (known : List ℕ) → known ≡ [] → AreDifferent old → IsNumbering old old texts 0 known
none_numbered old texts known empty different = record {
  kept = λ text n e. e;
  different = different;
  long = ap length empty;
  each = λ k lt. absurd (omega (arith, lt));
}

pub numbered_more : (old mid new : Texts) (texts : List Name) (count : ℕ) (known after : List ℕ) (text : List ℕ) (n : ℕ) → IsNumbering old mid texts count known → text ≡ text_in texts count → IsNumbered mid new text n → after ≡ known ++ n ∷ []
    → IsNumbering old new texts (count + 1) after
numbered_more old mid new texts count known after text n numbering is numbered pushed = record {
  kept = λ t k e. numbered.kept t k (numbering.kept t k e);
  different = numbered.different;
  long = ap length pushed ∙ length_push known n ∙ ap (λ (k : ℕ). k + 1) numbering.long;
  each = λ k lt. elim (cases_lt k count) [
    | inl under ↦
        (let long = numbering.long in
        numbered.kept (text_in texts k) (get_or known k 0) (numbering.each k under)
        ∙ ap Some (sym (ap (λ (ks : List ℕ). get_or ks k 0) pushed ∙ get_or_append_left known (n ∷ []) 0 k (omega (arith, under, long)))))
    | inr over ↦
        (let long = numbering.long in
        let last : k ≡ length known = omega (arith, over, lt, long) in
        let here : k ≡ count = omega (arith, over, lt) in
        ap (λ (j : ℕ). number_in new (text_in texts j)) here ∙ ap (number_in new) (sym is) ∙ numbered.own
        ∙ ap Some (sym (ap (λ (ks : List ℕ). get_or ks k 0) pushed ∙ ap (λ (j : ℕ). get_or (known ++ n ∷ []) j 0) last ∙ get_or-append_seam known n [] 0)))
  ];
}

pub all_numbered : (old new : Texts) (texts : List Name) (count : ℕ) (known : List ℕ) → count ≡ length texts → IsNumbering old new texts count known → NumbersAll old new texts known
all_numbered old new texts count known is numbering = record {
  kept = numbering.kept;
  different = numbering.different;
  known_are = record {
    long = numbering.long ∙ is;
    each = λ k lt. numbering.each k (omega (arith, lt, is));
  };
}

-- ---- the members of a class

-- the member at a place, and the numbers of its texts
pub record IsAt (named : List Named) (place : ℕ) (texts : List Name) (n d : ℕ) : Type 0 where
  pub name : Name
  pub desc : Desc
  pub there : slice_get named place ≡ Some (name, desc)
  pub by : IsNamedBy texts name desc n d

pub method_at : (methods : List Method) (place : ℕ) (texts : List Name) (n d : ℕ) → place < length methods → IfSome (slice_get methods place) (λ m. IsNamedBy texts m.name m.desc n d) → IsAt (map method_named methods) place texts n d
method_at [] place texts n d lt is = absurd (omega (arith, lt))
method_at (m ∷ methods) zero texts n d lt is = record { name = m.name; desc = m.desc; there = refl; by = is }
method_at (m ∷ methods) (suc place) texts n d lt is =
    let found = method_at methods place texts n d (omega (arith, lt)) is in record { name = found.name; desc = found.desc; there = found.there; by = found.by }

pub field_at : (fields : List Field) (place : ℕ) (texts : List Name) (n d : ℕ) → place < length fields → IfSome (slice_get fields place) (λ f. IsNamedBy texts f.name f.desc n d) → IsAt (map field_named fields) place texts n d
field_at [] place texts n d lt is = absurd (omega (arith, lt))
field_at (f ∷ fields) zero texts n d lt is = record { name = f.name; desc = f.desc; there = refl; by = is }
field_at (f ∷ fields) (suc place) texts n d lt is =
    let found = field_at fields place texts n d (omega (arith, lt)) is in record { name = found.name; desc = found.desc; there = found.there; by = found.by }

-- the row of the next member more
pub next_member : (number : Numbers) (members : Members) (texts : List Name) (known : List ℕ) (named : List Named) (class place n d : ℕ) (before after : List MemberRow) (row : MemberRow)
    → AreKnown number texts known → members class ≡ named → IsAt named place texts n d → IsRowBy known n d class place row → after ≡ before ++ row ∷ []
    → AreSoFar number members class place before → AreSoFar number members class (place + 1) after
next_member number members texts known named class place n d before after row are is found by pushed far =
    one_more number members class place before after row far pushed (record {
      name = found.name;
      text = text_in texts d;
      desc = found.desc;
      there = ap (λ (k : ℕ). slice_get (members k) row.place) by.class_is ∙ ap (slice_get (members class)) by.place_is ∙ ap (λ (all : List Named). slice_get all place) is ∙ found.there;
      spelled = found.by.spelled;
      name_is = ap number (sym found.by.name_is) ∙ are.each n found.by.name_within ∙ ap Some (sym by.name_is);
      desc_is = are.each d found.by.desc_within ∙ ap Some (sym by.desc_is);
      fits = by.fits;
    }) by.class_is by.place_is

pub so_far_kept : (old new : Numbers) (members : Members) (class place : ℕ) (rows : List MemberRow) → Keep old new → AreSoFar old members class place rows → AreSoFar new members class place rows
so_far_kept old new members class place rows keep far = record {
  each = All-weaker (IsRow old members) (IsRow new members) (λ row is. kept_row old new members keep row is) rows far.each;
  whole = far.whole;
}

-- ---- in order

module _ (number : Numbers) (members : Members) (classes count : ℕ) (rows sorted : List MemberRow) (is : classes ≡ count)
    (far : AreSoFar number members classes 0 rows) (moved : IsPermutation rows sorted) (ascend : IsNonDecreasingBy key_of sorted) where
  each_sorted : All (IsRow number members) sorted
  each_sorted = All-permutation (IsRow number members) rows sorted moved far.each

  there_sorted : (k p : ℕ) → IsThere rows k p → IsThere sorted k p
  there_sorted k p is = record {
    row = is.row;
    within = Contains-permutation rows sorted is.row moved is.within;
    class_is = is.class_is;
    place_is = is.place_is;
  }

  pub all_gathered : AreRows number members count sorted
  all_gathered = record {
    each = each_sorted;
    whole = λ k p less lt. there_sorted k p (far.whole k p (inl (omega (arith, less, is))) lt);
    order = record {
      fit = All-weaker (IsRow number members) Fits (λ row is. is.fits) sorted each_sorted;
      ascend = ascend;
    };
  }
