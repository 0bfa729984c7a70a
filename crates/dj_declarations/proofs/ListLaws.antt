-- Names that a class lists, by their places.
use Rattle.std.proofs.Common.{◌≡◌, ℕ, zero, suc, ◌+◌, ◌<◌, List, [], ◌∷◌, ◌++◌, length, get_or, set, take, Option, Some, None, refl, sym, ap, ◌∙◌, subst, inl, inr}
use Rattle.std.specs.Prelude.{slice_get}
use Rattle.std.specs.Option.{option_map}
use Rattle.std.specs.List.{flat_map}
use Rattle.std.proofs.lemmas.Bool.{cases_eq}
use Rattle.std.proofs.lemmas.List.{map-append, append-nil, length-set, take_more, get_or-set_same, get_or-set_other}
use Rattle.std.proofs.lemmas.Grind.{flat_map-append}
use Rattle.std.proofs.lemmas.Option.{get_or_from_slice_get}
use Rattle.dj_names.specs.trusted.Types.{Name}
use Rattle.dj_pool.specs.trusted.Pool.{Constant, text_at}
use Rattle.dj_class.specs.trusted.Names.{names_in}
use Rattle.dj_declarations.specs.Lists.{listed_at, AreListed, NamesKeep, AreCopies}

first_some : (found : Option Name) (name : Name) (rest : List (Option Name)) (names : List (Option Name)) → found ∷ rest ≡ Some name ∷ names → found ≡ Some name
first_some found name rest names e = cc

rest_some : (found : Option Name) (name : Name) (rest : List (Option Name)) (names : List (Option Name)) → found ∷ rest ≡ Some name ∷ names → rest ≡ names
rest_some found name rest names e = cc

-- what is listed is what stands at the places
pub listed_is : (names : List Name) (places : List ℕ) (listed : List Name) → AreListed names places listed → listed_at names places ≡ listed
listed_is names [] [] are = refl
listed_is names [] (name ∷ listed) are = absurd cc
listed_is names (place ∷ places) [] are = absurd cc
listed_is names (place ∷ places) (name ∷ listed) are =
    let here = get_or_from_slice_get names place name [] (first_some _ _ _ _ are) in
    let later = listed_is names places listed (rest_some _ _ _ _ are) in
    λ i. here i ∷ later i

pub listed_there : (names : List Name) (places : List ℕ) (listed : List Name) → AreListed names places listed → AreListed names places (listed_at names places)
listed_there names places listed are = subst (λ (ns : List Name). AreListed names places ns) (sym (listed_is names places listed are)) are

-- more names may come
pub listed_kept : (old new : List Name) → NamesKeep old new → (places : List ℕ) (listed : List Name) → AreListed old places listed → AreListed new places listed
listed_kept old new keep [] [] are = refl
listed_kept old new keep [] (name ∷ listed) are = absurd cc
listed_kept old new keep (place ∷ places) [] are = absurd cc
listed_kept old new keep (place ∷ places) (name ∷ listed) are =
    let here = keep place name (first_some _ _ _ _ are) in
    let later = listed_kept old new keep places listed (rest_some _ _ _ _ are) in
    λ i. here i ∷ later i

-- one more is listed
pub listed_more : (names : List Name) (places : List ℕ) (listed : List Name) (place : ℕ) (name : Name) → AreListed names places listed → slice_get names place ≡ Some name → AreListed names (places ++ place ∷ []) (listed ++ name ∷ [])
listed_more names places listed place name are at =
    map-append (slice_get names) places (place ∷ [])
    ∙ (λ i. are i ++ at i ∷ [])
    ∙ sym (map-append Some listed (name ∷ []))

-- ---- of the classes of some indexes

abbrev pub listed_by : (ℕ → Option Name) → List ℕ → List Name
listed_by name_of indexes = flat_map (λ index. names_in (name_of index)) indexes

module _ (name_of : ℕ → Option Name) (indexes : List ℕ) (i index : ℕ) (within : i < length indexes) (is : index ≡ get_or indexes i 0) where
  one_more : listed_by name_of (take (i + 1) indexes) ≡ listed_by name_of (take i indexes) ++ names_in (name_of index)
  one_more =
      ap (listed_by name_of) (take_more indexes i 0 within)
      ∙ flat_map-append (λ (index : ℕ). names_in (name_of index)) (take i indexes) (get_or indexes i 0 ∷ [])
      ∙ ap (λ (names : List Name). listed_by name_of (take i indexes) ++ names) (append-nil (names_in (name_of (get_or indexes i 0))))
      ∙ ap (λ (k : ℕ). listed_by name_of (take i indexes) ++ names_in (name_of k)) (sym is)

  module _ (old new : List Name) (places : List ℕ) (keep : NamesKeep old new) (before : AreListed old places (listed_by name_of (take i indexes))) where
    kept : AreListed new places (listed_by name_of (take i indexes))
    kept = listed_kept old new keep places (listed_by name_of (take i indexes)) before

    -- the class has a name, which stands at a place
    pub listed_some : (place : ℕ) → Some (slice_get new place) ≡ option_map Some (name_of index) → AreListed new (places ++ place ∷ []) (listed_by name_of (take (i + 1) indexes))
    listed_some place e = by (name_of index) refl e where
      by : (found : Option Name) → name_of index ≡ found → Some (slice_get new place) ≡ option_map Some found → AreListed new (places ++ place ∷ []) (listed_by name_of (take (i + 1) indexes))
      by None found_is e = absurd cc
      by (Some name) found_is e = subst (λ (names : List Name). AreListed new (places ++ place ∷ []) names)
          (sym (one_more ∙ ap (λ (found : Option Name). listed_by name_of (take i indexes) ++ names_in found) found_is))
          (listed_more new places (listed_by name_of (take i indexes)) place name kept cc)

    -- the class has no name
    pub listed_none : None ≡ option_map Some (name_of index) → AreListed new places (listed_by name_of (take (i + 1) indexes))
    listed_none e = by (name_of index) refl e where
      by : (found : Option Name) → name_of index ≡ found → None ≡ option_map Some found → AreListed new places (listed_by name_of (take (i + 1) indexes))
      by None found_is e = subst (λ (names : List Name). AreListed new places names)
          (sym (one_more ∙ ap (λ (found : Option Name). listed_by name_of (take i indexes) ++ names_in found) found_is ∙ append-nil (listed_by name_of (take i indexes))))
          kept
      by (Some name) found_is e = absurd cc

-- ---- a name more

kept_by_more : (old : List Name) (name : Name) → NamesKeep old (old ++ name ∷ [])
kept_by_more [] name place other at = absurd cc
kept_by_more (first ∷ old) name zero other at = at
kept_by_more (first ∷ old) name (suc place) other at = kept_by_more old name place other at

last_named : (old : List Name) (name : Name) → slice_get (old ++ name ∷ []) (length old) ≡ Some name
last_named [] name = refl
last_named (first ∷ old) name = last_named old name

pub kept_by_added : (old new : List Name) (name : Name) → new ≡ old ++ name ∷ [] → NamesKeep old new
kept_by_added old new name added = subst (λ (names : List Name). NamesKeep old names) (sym added) (kept_by_more old name)

pub named_by_added : (old new : List Name) (name : Name) (place : ℕ) → new ≡ old ++ name ∷ [] → place ≡ length old → slice_get new place ≡ Some name
named_by_added old new name place added is = ap (slice_get new) is ∙ ap (λ (names : List Name). slice_get names (length old)) added ∙ last_named old name

-- ---- copies of a pool's texts

held : (old new : List Name) → NamesKeep old new → (found : Option Name) (place : ℕ) → option_map Some found ≡ Some (slice_get old place) → option_map Some found ≡ Some (slice_get new place)
held old new keep None place e = absurd cc
held old new keep (Some name) place e = ap Some (sym (keep place name cc))

pub copies_more : (pool : List Constant) (old new : List Name) (places : List (Option ℕ)) (index place : ℕ) (text : Name) → AreCopies pool old places → NamesKeep old new → index < length places → text_at pool index ≡ Some text → slice_get new place ≡ Some text
    → AreCopies pool new (set places index (Some place))
copies_more pool old new places index place text before keep within at named = record {
  rooms = length-set places index (Some place) ∙ before.rooms;
  reported = λ other reported e. elim (cases_eq other index) [
    | inl same ↦
        let is : reported ≡ place = reported_is reported place (sym (ap (λ (k : ℕ). get_or (set places index (Some place)) k None) same ∙ get_or-set_same places index (Some place) None within) ∙ e) in
        ap (λ (k : ℕ). option_map Some (text_at pool k)) same ∙ ap (option_map Some) at ∙ ap Some (sym named) ∙ ap (λ (k : ℕ). Some (slice_get new k)) (sym is)
    | inr apart ↦ held old new keep (text_at pool other) reported (before.reported other reported (sym (get_or-set_other places index other (Some place) None apart) ∙ e))
  ];
} where
  reported_is : (reported place : ℕ) → Some place ≡ Some reported → reported ≡ place
  reported_is reported place e = cc

-- a copy of the names so far and one more
pub copied_more : (names : List Name) (i : ℕ) (name : Name) (old new : List Name) (places : List ℕ) (place : ℕ) → i < length names → name ≡ get_or names i [] → AreListed old places (take i names) → new ≡ old ++ name ∷ [] → place ≡ length old
    → AreListed new (places ++ place ∷ []) (take (i + 1) names)
copied_more names i name old new places place within is before added at =
    subst (λ (listed : List Name). AreListed new (places ++ place ∷ []) listed) (ap (λ (n : Name). take i names ++ n ∷ []) is ∙ sym (take_more names i [] within))
    (listed_more new places (take i names) place name (listed_kept old new (kept_by_added old new name added) places (take i names) before) (named_by_added old new name place added at))
