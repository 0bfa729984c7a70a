-- Texts in ascending order, in one list of bytes.
use Rattle.std.proofs.Common.{◌≡◌, ℕ, zero, suc, ◌+◌, ◌-◌, ◌<◌, ◌≤◌, Bool, true, false, cond, List, [], ◌∷◌, ◌++◌, length, get_or, take, drop, Option, Some, None, Result, Ok, Err, refl, sym, ap, ◌∙◌, subst, arith, add-one, inl, inr}
use Rattle.std.specs.Option.{option_map}
use Rattle.std.specs.Prelude.{OnOk, OnErr}
use Rattle.std.specs.Ordering.{nat_cmp, ordering_reverse}
use Rattle.std.specs.declared.cmp.Ordering.{Ordering}
use Rattle.std.specs.declared.cmp.Ordering.TheVariants.{Less, Equal, Greater}
use Rattle.std.specs.Cmp.Lexicographic.{slice_cmp}
use Rattle.std.specs.FinMap.{nat_cmp-IsAntisymmetric, slice_cmp-IsAntisymmetric}
use Rattle.std.proofs.lemmas.Bool.{cases_lt, cases_Bool}
use Rattle.std.proofs.lemmas.Cmp.{nat_list_cmp_total, tied_itself}
use Rattle.std.proofs.lemmas.List.{length_push, length-drop, get_or_append_left, get_or_default, length-append, take_all, take-append-le, drop-append-le}
use Rattle.std.proofs.lemmas.Option.{same_Some, none-some}
use Rattle.std.proofs.Math.Seq.{get_or-append_seam, drop-append_seam}
use Rattle.dj_names.specs.trusted.Types.{Name, same_name}
use Rattle.dj_declarations.specs.Texts.{Numbers, number_in, text_in, LeadBack, NumbersKeep, AreAscending, AreBefore, texts_from, AreEnds, start_at}
use Rattle.dj_declarations.proofs.DescTests.{same_name_is, same_name_itself}

abbrev next : ℕ → ℕ
next number = number + 1

abbrev cmp : Name → Name → Ordering
cmp = slice_cmp nat_cmp

-- ---- the number of a text

pub leads_back : (texts : Numbers) → LeadBack texts
leads_back [] text number is = absurd (none-some number is)
leads_back (first ∷ texts) text number is = by (same_name first text) (number_in texts text) refl (leads_back texts text) is where
  by : (b : Bool) (found : Option ℕ) → same_name first text ≡ b → ((k : ℕ) → found ≡ Some k → text_in texts k ≡ text) → cond b (Some 0) (option_map next found) ≡ Some number → text_in (first ∷ texts) number ≡ text
  by true found same later is = ap (text_in (first ∷ texts)) (sym (same_Some 0 number is)) ∙ same_name_is first text same
  by false None same later is = absurd (none-some number is)
  by false (Some k) same later is = ap (text_in (first ∷ texts)) (sym (same_Some (k + 1) number is) ∙ add-one k) ∙ later k refl

pub number_within : (texts : Numbers) (text : Name) (number : ℕ) → number_in texts text ≡ Some number → number < length texts
number_within [] text number is = absurd (none-some number is)
number_within (first ∷ texts) text number is = by (same_name first text) (number_in texts text) (number_within texts text) is where
  by : (b : Bool) (found : Option ℕ) → ((k : ℕ) → found ≡ Some k → k < length texts) → cond b (Some 0) (option_map next found) ≡ Some number → number < length (first ∷ texts)
  by true found later is = let e = same_Some 0 number is in omega (arith, e)
  by false None later is = absurd (none-some number is)
  by false (Some k) later is = let e = same_Some (k + 1) number is in let lt = later k refl in omega (arith, e, lt)

kept_by_more : (old : Numbers) (more text : Name) (number : ℕ) → number_in old text ≡ Some number → number_in (old ++ more ∷ []) text ≡ Some number
kept_by_more [] more text number is = absurd (none-some number is)
kept_by_more (first ∷ old) more text number is = by (same_name first text) (number_in old text) (number_in (old ++ more ∷ []) text) (kept_by_more old more text) is where
  by : (b : Bool) (found later : Option ℕ) → ((k : ℕ) → found ≡ Some k → later ≡ Some k) → cond b (Some 0) (option_map next found) ≡ Some number → cond b (Some 0) (option_map next later) ≡ Some number
  by true found later kept is = is
  by false None later kept is = absurd (none-some number is)
  by false (Some k) later kept is = ap (option_map next) (kept k refl) ∙ is

pub kept_by_added : (old new : Numbers) (more : Name) → new ≡ old ++ more ∷ [] → NumbersKeep old new
kept_by_added old new more added text number is = ap (λ (texts : Numbers). number_in texts text) added ∙ kept_by_more old more text number is

-- ---- by the order

equal_texts : (a b : Name) → cmp a b ≡ Equal → a ≡ b
equal_texts a b e = slice_cmp-IsAntisymmetric nat_cmp-IsAntisymmetric a b e

equal_itself : (a : Name) → cmp a a ≡ Equal
equal_itself a = tied_itself nat_list_cmp_total a

less_back : (a b : Name) → cmp a b ≡ Greater → cmp b a ≡ Less
less_back a b e = nat_list_cmp_total.antisymm b a ∙ ap ordering_reverse e

greater_back : (a b : Name) → cmp a b ≡ Less → cmp b a ≡ Greater
greater_back a b e = nat_list_cmp_total.antisymm b a ∙ ap ordering_reverse e

differs : (a b : Name) (r : Ordering) → cmp a b ≡ r → (r ≡ Equal → ⊥) → same_name a b ≡ false
differs a b r e other = elim (cases_Bool (same_name a b)) [
  | inl same ↦ absurd (other (sym e ∙ ap (λ (t : Name). cmp t b) (same_name_is a b same) ∙ equal_itself b))
  | inr apart ↦ apart
]

less_differs : (a b : Name) → cmp a b ≡ Less → same_name a b ≡ false
less_differs a b e = differs a b Less e (λ same. absurd cc)

greater_differs : (a b : Name) → cmp a b ≡ Greater → same_name a b ≡ false
greater_differs a b e = differs a b Greater e (λ same. absurd cc)

-- no text is this one
pub none_of : (texts : Numbers) (text : Name) → ((place : ℕ) → place < length texts → same_name (text_in texts place) text ≡ false) → number_in texts text ≡ None
none_of [] text none = refl
none_of (first ∷ texts) text none =
    ap (λ (b : Bool). cond b (Some 0) (option_map next (number_in texts text))) (none 0 (omega arith))
    ∙ ap (option_map next) (none_of texts text (λ place lt. none (suc place) (omega (arith, lt))))

-- the first that is
first_of : (texts : Numbers) (text : Name) (number : ℕ) → number < length texts → ((place : ℕ) → place < number → same_name (text_in texts place) text ≡ false) → same_name (text_in texts number) text ≡ true → number_in texts text ≡ Some number
first_of [] text number lt none is = absurd (omega (arith, lt))
first_of (first ∷ texts) text zero lt none is = ap (λ (b : Bool). cond b (Some 0) (option_map next (number_in texts text))) is
first_of (first ∷ texts) text (suc number) lt none is =
    ap (λ (b : Bool). cond b (Some 0) (option_map next (number_in texts text))) (none 0 (omega arith))
    ∙ ap (option_map next) (first_of texts text number (omega (arith, lt)) (λ place below. none (suc place) (omega (arith, below))) is)
    ∙ ap Some (add-one number)

pub texts_long : (start : ℕ) (ends bytes : List ℕ) → length (texts_from start ends bytes) ≡ length ends
texts_long start [] bytes = refl
texts_long start (end ∷ ends) bytes = let e = texts_long end ends bytes in omega (arith, e)

-- ---- a search

-- of the texts that end there those up to a place are before the text, and those from another place on are after it
pub record IsBetween (ends bytes : List ℕ) (text : Name) (low high : ℕ) : Type 0 where
  pub order : low ≤ high
  pub within : high ≤ length ends
  pub before : (place : ℕ) → place < low → cmp (text_in (texts_from 0 ends bytes) place) text ≡ Less
  pub after : (place : ℕ) → high ≤ place → place < length ends → cmp (text_in (texts_from 0 ends bytes) place) text ≡ Greater

pub between_all : (ends bytes : List ℕ) (text : Name) → IsBetween ends bytes text 0 (length ends)
between_all ends bytes text = record {
  order = omega arith;
  within = omega arith;
  before = λ place lt. absurd (omega (arith, lt));
  after = λ place le lt. absurd (omega (arith, le, lt));
}

rises : (ends bytes : List ℕ) → AreAscending (texts_from 0 ends bytes) → (i j : ℕ) → i < j → j < length ends → cmp (text_in (texts_from 0 ends bytes) i) (text_in (texts_from 0 ends bytes) j) ≡ Less
rises ends bytes ascend i j lt within = ascend i j lt (let long = texts_long 0 ends bytes in omega (arith, within, long))

module _ (ends bytes : List ℕ) (text : Name) (low high middle : ℕ) (ascend : AreAscending (texts_from 0 ends bytes)) (is : IsBetween ends bytes text low high) (lt : middle < high) (le : low ≤ middle) where
  pub between_higher : Less ≡ cmp (text_in (texts_from 0 ends bytes) middle) text → IsBetween ends bytes text (middle + 1) high
  between_higher less = record {
    order = omega (arith, lt);
    within = is.within;
    before = λ place below. elim (cases_lt place middle) [
      | inl under ↦
          (let wide = is.within in
          nat_list_cmp_total.trans (text_in (texts_from 0 ends bytes) place) (text_in (texts_from 0 ends bytes) middle) text (rises ends bytes ascend place middle under (omega (arith, lt, wide))) (sym less))
      | inr over ↦ (let same : place ≡ middle = omega (arith, over, below) in ap (λ (k : ℕ). cmp (text_in (texts_from 0 ends bytes) k) text) same ∙ sym less)
    ];
    after = is.after;
  }

  pub between_lower : Greater ≡ cmp (text_in (texts_from 0 ends bytes) middle) text → IsBetween ends bytes text low middle
  between_lower greater = record {
    order = le;
    within = (let wide = is.within in omega (arith, lt, wide));
    before = is.before;
    after = λ place above inside. elim (cases_lt middle place) [
      | inl over ↦
          greater_back text (text_in (texts_from 0 ends bytes) place)
          (nat_list_cmp_total.trans text (text_in (texts_from 0 ends bytes) middle) (text_in (texts_from 0 ends bytes) place) (less_back (text_in (texts_from 0 ends bytes) middle) text (sym greater)) (rises ends bytes ascend middle place over inside))
      | inr under ↦ (let same : place ≡ middle = omega (arith, above, under) in ap (λ (k : ℕ). cmp (text_in (texts_from 0 ends bytes) k) text) same ∙ sym greater)
    ];
  }

pub found_there : (ends bytes : List ℕ) (text : Name) (middle : ℕ) → AreAscending (texts_from 0 ends bytes) → middle < length ends → Equal ≡ cmp (text_in (texts_from 0 ends bytes) middle) text → Some middle ≡ number_in (texts_from 0 ends bytes) text
found_there ends bytes text middle ascend lt equal =
    let is : text_in (texts_from 0 ends bytes) middle ≡ text = equal_texts (text_in (texts_from 0 ends bytes) middle) text (sym equal) in
    sym (first_of (texts_from 0 ends bytes) text middle (let long = texts_long 0 ends bytes in omega (arith, lt, long))
    (λ place below. less_differs (text_in (texts_from 0 ends bytes) place) text (ap (cmp (text_in (texts_from 0 ends bytes) place)) (sym is) ∙ rises ends bytes ascend place middle below lt))
    (same_name_itself (text_in (texts_from 0 ends bytes) middle) text is))

pub found_nowhere : (ends bytes : List ℕ) (text : Name) (low high : ℕ) → IsBetween ends bytes text low high → high ≤ low → None ≡ number_in (texts_from 0 ends bytes) text
found_nowhere ends bytes text low high is met = sym (none_of (texts_from 0 ends bytes) text (λ place lt. elim (cases_lt place low) [
  | inl under ↦ less_differs (text_in (texts_from 0 ends bytes) place) text (is.before place under)
  | inr over ↦ greater_differs (text_in (texts_from 0 ends bytes) place) text (is.after place (omega (arith, over, met)) (let long = texts_long 0 ends bytes in omega (arith, lt, long)))
]))

-- ---- one text more

module _ (texts : Numbers) (more : Name) (before : AreBefore texts more) where
  old_text : (place : ℕ) → place < length texts → text_in (texts ++ more ∷ []) place ≡ text_in texts place
  old_text place lt = get_or_append_left texts (more ∷ []) [] place lt

  new_text : text_in (texts ++ more ∷ []) (length texts) ≡ more
  new_text = get_or-append_seam texts more [] []

  ascend_push : AreAscending texts → AreAscending (texts ++ more ∷ [])
  ascend_push ascend i j lt within = let long = length_push texts more in elim (cases_lt j (length texts)) [
    | inl old ↦ ap (λ (t : Name). cmp t (text_in (texts ++ more ∷ []) j)) (old_text i (omega (arith, lt, old))) ∙ ap (cmp (text_in texts i)) (old_text j old) ∙ ascend i j lt old
    | inr new ↦
        (let last : j ≡ length texts = omega (arith, new, within, long) in
        ap (λ (k : ℕ). cmp (text_in (texts ++ more ∷ []) i) (text_in (texts ++ more ∷ []) k)) last
        ∙ ap (cmp (text_in (texts ++ more ∷ []) i)) new_text
        ∙ ap (λ (t : Name). cmp t more) (old_text i (omega (arith, lt, last)))
        ∙ before i (omega (arith, lt, last)))
  ]

  number_push : number_in (texts ++ more ∷ []) more ≡ Some (length texts)
  number_push =
      first_of (texts ++ more ∷ []) more (length texts) (let long = length_push texts more in omega (arith, long))
      (λ place lt. ap (λ (t : Name). same_name t more) (old_text place lt) ∙ less_differs (text_in texts place) more (before place lt))
      (same_name_itself (text_in (texts ++ more ∷ []) (length texts)) more new_text)

-- what holds of the texts with one more
pub ascend_more : (texts new : Numbers) (more : Name) → AreBefore texts more → new ≡ texts ++ more ∷ [] → AreAscending texts → AreAscending new
ascend_more texts new more before added ascend = subst AreAscending (sym added) (ascend_push texts more before ascend)

pub number_more : (texts new : Numbers) (more : Name) (number : ℕ) → AreBefore texts more → new ≡ texts ++ more ∷ [] → number ≡ length texts → number_in new more ≡ Some number
number_more texts new more number before added is = ap (λ (ts : Numbers). number_in ts more) added ∙ number_push texts more before ∙ ap Some (sym is)

-- all are before a text that the last one is before
pub before_by_last : (ends bytes : List ℕ) (text : Name) → AreAscending (texts_from 0 ends bytes) → 0 < length ends → Less ≡ cmp (text_in (texts_from 0 ends bytes) (length ends - 1)) text → AreBefore (texts_from 0 ends bytes) text
before_by_last ends bytes text ascend some less place lt = let long = texts_long 0 ends bytes in elim (cases_lt place (length ends - 1)) [
  | inl under ↦ nat_list_cmp_total.trans (text_in (texts_from 0 ends bytes) place) (text_in (texts_from 0 ends bytes) (length ends - 1)) text (ascend place (length ends - 1) under (omega (arith, some, long))) (sym less)
  | inr over ↦ (let same : place ≡ length ends - 1 = omega (arith, over, lt, long) in ap (λ (k : ℕ). cmp (text_in (texts_from 0 ends bytes) k) text) same ∙ sym less)
]

pub before_none : (ends bytes : List ℕ) (text : Name) → length ends ≡ 0 → AreBefore (texts_from 0 ends bytes) text
before_none ends bytes text none place lt = absurd (let long = texts_long 0 ends bytes in omega (arith, long, none, lt))

-- ---- in one list of bytes

pub text_there : (start : ℕ) (ends bytes : List ℕ) (place : ℕ) → place < length ends → text_in (texts_from start ends bytes) place ≡ take (get_or ends place 0 - start_at start ends place) (drop (start_at start ends place) bytes)
text_there start [] bytes place lt = absurd (omega (arith, lt))
text_there start (end ∷ ends) bytes zero lt = refl
text_there start (end ∷ ends) bytes (suc zero) lt = text_there end ends bytes zero (omega (arith, lt))
text_there start (end ∷ ends) bytes (suc (suc place)) lt = text_there end ends bytes (suc place) (omega (arith, lt))

-- from a place on each text ends where it begins or later, and the last one at the end of this many bytes
abbrev IsRun : ℕ → List ℕ → ℕ → Type 0
IsRun start [] long = start ≡ long
IsRun start (end ∷ ends) long = (start ≤ end) × IsRun end ends long

begins_after : (start end : ℕ) (ends : List ℕ) (place : ℕ) → start_at start (end ∷ ends) (suc place) ≡ start_at end ends place
begins_after start end ends zero = refl
begins_after start end ends (suc place) = refl

one_longer : (end : ℕ) (ends : List ℕ) → suc (length ends) ≡ length (end ∷ ends)
one_longer end ends = omega arith

run_of : (start : ℕ) (ends : List ℕ) (long : ℕ) → ((place : ℕ) → place < length ends → start_at start ends place ≤ get_or ends place 0) → start_at start ends (length ends) ≡ long → IsRun start ends long
run_of start [] long rise last = last
run_of start (end ∷ ends) long rise last = (
  rise 0 (omega arith),
  run_of end ends long
      (λ place lt. subst (λ (n : ℕ). n ≤ get_or ends place 0) (begins_after start end ends place) (rise (suc place) (omega (arith, lt))))
      (sym (begins_after start end ends (length ends)) ∙ ap (start_at start (end ∷ ends)) (one_longer end ends) ∙ last),
)

ends_reach : (start : ℕ) (ends : List ℕ) (long : ℕ) → IsRun start ends long → start ≤ long
ends_reach start [] long are = omega (arith, are)
ends_reach start (end ∷ ends) long are = let le = are.0 in let far = ends_reach end ends long are.1 in omega (arith, le, far)

bounds_in : (start : ℕ) (ends : List ℕ) (long place : ℕ) → IsRun start ends long → place < length ends → (start_at start ends place ≤ get_or ends place 0) × (get_or ends place 0 ≤ long)
bounds_in start [] long place are lt = absurd (omega (arith, lt))
bounds_in start (end ∷ ends) long zero are lt = (are.0, ends_reach end ends long are.1)
bounds_in start (end ∷ ends) long (suc place) are lt =
    let later = bounds_in end ends long place are.1 (omega (arith, lt)) in
    (subst (λ (n : ℕ). n ≤ get_or ends place 0) (sym (begins_after start end ends place)) later.0, later.1)

whole_run : (ends : List ℕ) (long : ℕ) → AreEnds ends long → IsRun 0 ends long
whole_run ends long are = run_of 0 ends long are.rise are.last

pub text_bounds : (ends : List ℕ) (long place : ℕ) → AreEnds ends long → place < length ends → (start_at 0 ends place ≤ get_or ends place 0) × (get_or ends place 0 ≤ long)
text_bounds ends long place are lt = bounds_in 0 ends long place (whole_run ends long are) lt

-- where the text before it ends
pub begins : (ends : List ℕ) (place value : ℕ) → place ≤ length ends → (place ≡ 0 → ⊥) → value ≡ get_or ends (place - 1) value → value ≡ start_at 0 ends place
begins ends zero value le other is = absurd (other refl)
begins ends (suc place) value le other is = is ∙ ap (λ (k : ℕ). get_or ends k value) (before place) ∙ get_or_default ends place value 0 (omega (arith, le)) where
  before : (k : ℕ) → suc k - 1 ≡ k
  before k = omega arith

pub begins_first : (ends : List ℕ) (place : ℕ) → place ≡ 0 → 0 ≡ start_at 0 ends place
begins_first ends place is = sym (ap (start_at 0 ends) is)

pub starts_before : (ends bytes : List ℕ) (place start : ℕ) → AreEnds ends (length bytes) → place < length ends → start ≡ start_at 0 ends place → start ≤ get_or ends place 0
starts_before ends bytes place start are lt is = let bounds = text_bounds ends (length bytes) place are lt in omega (arith, bounds.0, is)

pub ends_inside : (ends bytes : List ℕ) (place : ℕ) → AreEnds ends (length bytes) → place < length ends → get_or ends place 0 ≤ length bytes
ends_inside ends bytes place are lt = (text_bounds ends (length bytes) place are lt).1

pub text_read : (ends bytes : List ℕ) (place start : ℕ) → place < length ends → start ≡ start_at 0 ends place → take (get_or ends place 0 - start) (drop start bytes) ≡ text_in (texts_from 0 ends bytes) place
text_read ends bytes place start lt is = ap (λ (s : ℕ). take (get_or ends place 0 - s) (drop s bytes)) is ∙ sym (text_there 0 ends bytes place lt)

run_more : (start : ℕ) (ends : List ℕ) (long more : ℕ) → IsRun start ends long → long ≤ more → IsRun start (ends ++ more ∷ []) more
run_more start [] long more are le = (omega (arith, are, le), refl)
run_more start (end ∷ ends) long more are le = (are.0, run_more end ends long more are.1 le)

last_in : (start : ℕ) (ends : List ℕ) (long : ℕ) → IsRun start ends long → start_at start ends (length ends) ≡ long
last_in start [] long are = are
last_in start (end ∷ ends) long are = ap (start_at start (end ∷ ends)) (sym (one_longer end ends)) ∙ begins_after start end ends (length ends) ∙ last_in end ends long are.1

pub ends_more : (ends new : List ℕ) (long more : ℕ) → AreEnds ends long → long ≤ more → new ≡ ends ++ more ∷ [] → AreEnds new more
ends_more ends new long more are le added =
    let run = run_more 0 ends long more (whole_run ends long are) le in
    subst (λ (es : List ℕ). AreEnds es more) (sym added) (record {
      rise = λ place lt. (bounds_in 0 (ends ++ more ∷ []) more place run lt).0;
      last = last_in 0 (ends ++ more ∷ []) more run;
    })

same_part : (bytes text : List ℕ) (start end : ℕ) → start ≤ end → end ≤ length bytes → take (end - start) (drop start (bytes ++ text)) ≡ take (end - start) (drop start bytes)
same_part bytes text start end le far =
    let long = length-drop start bytes in
    ap (take (end - start)) (drop-append-le start bytes text (omega (arith, le, far))) ∙ take-append-le (end - start) (drop start bytes) text (omega (arith, le, far, long))

last_part : (bytes text : List ℕ) → take (length bytes + length text - length bytes) (drop (length bytes) (bytes ++ text)) ≡ text
last_part bytes text = ap (take (length bytes + length text - length bytes)) (drop-append_seam bytes text) ∙ take_all (length bytes + length text - length bytes) text (omega arith)

texts_push : (start : ℕ) (ends bytes text : List ℕ) → IsRun start ends (length bytes) → texts_from start (ends ++ (length bytes + length text) ∷ []) (bytes ++ text) ≡ texts_from start ends bytes ++ text ∷ []
texts_push start [] bytes text are = ap (λ (t : Name). t ∷ []) (ap (λ (k : ℕ). take (length bytes + length text - k) (drop k (bytes ++ text))) are ∙ last_part bytes text)
texts_push start (end ∷ ends) bytes text are =
    let part = same_part bytes text start end are.0 (ends_reach end ends (length bytes) are.1) in
    let later = texts_push end ends bytes text are.1 in
    λ i. part i ∷ later i

pub texts_more : (ends bytes text new_ends new_bytes : List ℕ) (end : ℕ) → AreEnds ends (length bytes) → end ≡ length bytes + length text → new_ends ≡ ends ++ end ∷ [] → new_bytes ≡ bytes ++ text
    → texts_from 0 new_ends new_bytes ≡ texts_from 0 ends bytes ++ text ∷ []
texts_more ends bytes text new_ends new_bytes end are is ends_is bytes_is =
    ap (λ (es : List ℕ). texts_from 0 es new_bytes) (ends_is ∙ ap (λ (e : ℕ). ends ++ e ∷ []) is)
    ∙ ap (texts_from 0 (ends ++ (length bytes + length text) ∷ [])) bytes_is
    ∙ texts_push 0 ends bytes text (whole_run ends (length bytes) are)

-- a text that was appended is taken away
pub taken_back : (bytes text more back : List ℕ) (start : ℕ) → start ≡ length bytes → more ≡ bytes ++ text → back ≡ take start more → back ≡ bytes
taken_back bytes text more back start is appended taken =
    taken ∙ ap (take start) appended ∙ ap (λ (n : ℕ). take n (bytes ++ text)) is ∙ take-append-le (length bytes) bytes text (omega arith) ∙ take_all (length bytes) bytes (omega arith)

-- ---- a table

-- what a table of texts keeps
pub record Holds (ends bytes : List ℕ) : Type 0 where
  pub few : length ends ≤ 65536
  pub ended : AreEnds ends (length bytes)
  pub ascend : AreAscending (texts_from 0 ends bytes)

pub holds_same : (ends bytes new_ends new_bytes : List ℕ) → Holds ends bytes → new_bytes ≡ bytes → new_ends ≡ ends → Holds new_ends new_bytes
holds_same ends bytes new_ends new_bytes holds bytes_is ends_is =
    subst (λ (bs : List ℕ). Holds new_ends bs) (sym bytes_is) (subst (λ (es : List ℕ). Holds es bytes) (sym ends_is) holds)

module _ (ends bytes new_ends new_bytes : List ℕ) (text : Name) (number : ℕ) (holds : Holds ends bytes) (before : AreBefore (texts_from 0 ends bytes) text) (bytes_is : new_bytes ≡ bytes ++ text)
    (ends_is : new_ends ≡ ends ++ (length bytes + length text) ∷ []) where
  one_text : texts_from 0 new_ends new_bytes ≡ texts_from 0 ends bytes ++ text ∷ []
  one_text = texts_more ends bytes text new_ends new_bytes (length bytes + length text) holds.ended refl ends_is bytes_is

  pub holds_more : number ≡ length ends → number < 65536 → Holds new_ends new_bytes
  holds_more is lt = record {
    few = (let long = ap length ends_is in let more = length_push ends (length bytes + length text) in omega (arith, long, more, is, lt));
    ended = subst (λ (n : ℕ). AreEnds new_ends n) (sym (ap length bytes_is ∙ length-append bytes text)) (ends_more ends new_ends (length bytes) (length bytes + length text) holds.ended (omega arith) ends_is);
    ascend = ascend_more (texts_from 0 ends bytes) (texts_from 0 new_ends new_bytes) text before one_text holds.ascend;
  }

  pub keep_more : NumbersKeep (texts_from 0 ends bytes) (texts_from 0 new_ends new_bytes)
  keep_more = kept_by_added (texts_from 0 ends bytes) (texts_from 0 new_ends new_bytes) text one_text

  pub reported_more : number ≡ length ends → number_in (texts_from 0 new_ends new_bytes) text ≡ Some number
  reported_more is = number_more (texts_from 0 ends bytes) (texts_from 0 new_ends new_bytes) text number before one_text (is ∙ sym (texts_long 0 ends bytes))

pub on_both : {T E : Type 0} (r : Result T E) (P Q S U R : Type 0) → OnOk r P × OnOk r Q → OnErr r S × OnErr r U → (P → Q → R) → (S → U → R) → R
on_both (Ok x) P Q S U R ok err f g = f ok.0 ok.1
on_both (Err e) P Q S U R ok err f g = g err.0 err.1
