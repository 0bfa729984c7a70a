-- Trees of kinds as lists.
use Rattle.std.proofs.Common.{◌≡◌, ℕ, zero, suc, ◌+◌, ◌-◌, ◌<◌, ◌≤◌, ◌⊎◌, List, [], ◌∷◌, ◌++◌, length, map, get_or, set, slice_get, replicate, Option, Some, None, refl, sym, ap, subst, ◌∙◌, inl, inr, arith, Decides, Bool}
use Rattle.std.proofs.lemmas.List.{get_or-set_same, get_or-set_other, length-set}
use Rattle.dj_names.specs.declared.descriptor.Kind.{Kind}
use Rattle.dj_kind_trees.specs.Nodes.{listed}
use Rattle.dj_kind_trees.specs.Forests.{Forest, IsTree, IsBare, KeepsTrees, FlowsInto, HasPut, HasReplaced, kind_in, slots_of}
use Rattle.dj_kind_trees.proofs.Growing.{nat_dec}
use Rattle.dj_kind_lists.specs.Lists.{Lists, ListFlows, SameLists, SameButFrames, IsChanged, kinds_from, kinds_of, IsShort, tree_at, AreShort, AreLists}

-- ---- lists by their slots

pub same_lists : (a b : List (Option Kind)) → length a ≡ length b → ((slot : ℕ) → slot < length a → listed a slot ≡ listed b slot) → a ≡ b
same_lists [] [] e same = refl
same_lists [] (y ∷ b) e same = absurd (omega (arith, e))
same_lists (x ∷ a) [] e same = absurd (omega (arith, e))
same_lists (x ∷ a) (y ∷ b) e same =
    let first : x ≡ y = same 0 (omega arith) in
    let rest : a ≡ b = same_lists a b (omega (arith, e)) (λ slot within. same (suc slot) (omega (arith, within))) in
    ap (λ (k : Option Kind). k ∷ a) first ∙ ap (λ (l : List (Option Kind)). y ∷ l) rest

pub past_list : (list : List (Option Kind)) (slot : ℕ) → length list ≤ slot → listed list slot ≡ None
past_list [] slot past = refl
past_list (x ∷ list) zero past = absurd (omega (arith, past))
past_list (x ∷ list) (suc slot) past = past_list list slot (omega (arith, past))

-- ---- the kinds of a tree

pub many_from : (forest : Forest) (tree slot count : ℕ) → length (kinds_from forest tree slot count) ≡ count
unfolding kinds_from
many_from forest tree slot zero = refl
many_from forest tree slot (suc count) = ap suc (many_from forest tree (suc slot) count)

at_from : (forest : Forest) (tree slot count k : ℕ) → k < count → listed (kinds_from forest tree slot count) k ≡ kind_in forest tree (slot + k)
unfolding kinds_from
at_from forest tree slot zero k within = absurd (omega (arith, within))
at_from forest tree slot (suc count) zero within = ap (λ (n : ℕ). kind_in forest tree n) (omega arith)
at_from forest tree slot (suc count) (suc k) within =
    at_from forest tree (suc slot) count k (omega (arith, within)) ∙ ap (λ (n : ℕ). kind_in forest tree n) (omega arith)

pub kind_listed : (forest : Forest) (count tree slot : ℕ) → slot < count → listed (kinds_of forest count tree) slot ≡ kind_in forest tree slot
kind_listed forest count tree slot within = at_from forest tree 0 count slot within ∙ ap (λ (n : ℕ). kind_in forest tree n) (omega arith)

pub past_listed : (forest : Forest) (count tree slot : ℕ) → count ≤ slot → listed (kinds_of forest count tree) slot ≡ None
past_listed forest count tree slot past = past_list (kinds_of forest count tree) slot (omega (arith, past, many_from forest tree 0 count))

-- a list with the kinds of a tree
pub listed_so : (forest : Forest) (count tree : ℕ) (list : List (Option Kind)) → length list ≡ count → ((slot : ℕ) → slot < count → kind_in forest tree slot ≡ listed list slot) → kinds_of forest count tree ≡ list
listed_so forest count tree list many same =
    let n = many_from forest tree 0 count in
    same_lists (kinds_of forest count tree) list (omega (arith, n, many)) (λ slot within.
    let less : slot < count = omega (arith, within, n) in
    kind_listed forest count tree slot less ∙ same slot less)

-- ---- what is kept

module _ (old new : Forest) (keeps : KeepsTrees old new) (count : ℕ) (room : count ≤ slots_of old) where
  pub room_kept : count ≤ slots_of new
  room_kept = subst (λ (n : ℕ). count ≤ n) (sym keeps.slots) room

  pub bare_kept : IsBare old 0 → IsBare new 0
  bare_kept bare = record { tree_is = keeps.trees 0 bare.tree_is; none = λ slot. keeps.kinds 0 slot bare.tree_is ∙ bare.none slot }

  pub list_kept : (tree : ℕ) → IsTree old tree → kinds_of new count tree ≡ kinds_of old count tree
  list_kept tree is =
      listed_so new count tree (kinds_of old count tree) (many_from old tree 0 count)
      (λ slot within. keeps.kinds tree slot is ∙ sym (kind_listed old count tree slot within))

  pub short_kept : (tree : ℕ) → IsShort old count tree → IsShort new count tree
  short_kept tree short = record {
    tree_is = keeps.trees tree short.tree_is;
    none = λ slot past within. keeps.kinds tree slot short.tree_is ∙ short.none slot past (subst (λ (n : ℕ). slot < n) keeps.slots within);
  }

  pub all_short : (trees : List ℕ) → AreShort old count trees → AreShort new count trees
  all_short trees are number = short_kept (tree_at trees number) (are number)

  pub all_kept : (trees : List ℕ) → AreShort old count trees → map (kinds_of new count) trees ≡ map (kinds_of old count) trees
  all_kept [] are = refl
  all_kept (tree ∷ trees) are =
      ap (λ (l : List (Option Kind)). l ∷ map (kinds_of new count) trees) (list_kept tree (are 0).tree_is)
      ∙ ap (λ (l : List (List (Option Kind))). kinds_of old count tree ∷ l) (all_kept trees (λ number. are (suc number)))

  pub lists_kept : (current : ℕ) (frames states : List ℕ) → AreLists old count current frames states → AreLists new count current frames states
  lists_kept current frames states are = record {
    room = room_kept;
    bare = bare_kept are.bare;
    current_is = short_kept current are.current_is;
    frames_are = all_short frames are.frames_are;
    states_are = all_short states are.states_are;
  }

-- ---- the view

abbrev pub view_of : Forest → ℕ → ℕ → List ℕ → List ℕ → Lists
view_of forest count current frames states =
    record { count = count; current = kinds_of forest count current; frames = map (kinds_of forest count) frames; states = map (kinds_of forest count) states }

module _ (old new : Forest) (keeps : KeepsTrees old new) (count current : ℕ) (frames states : List ℕ) (are : AreLists old count current frames states) where
  pub same_view : (other : ℕ) → SameLists (view_of old count current frames states) (view_of new count other frames states)
  same_view other = record { count = refl; frames = all_kept old new keeps count are.room frames are.frames_are; states = all_kept old new keeps count are.room states are.states_are }

  pub same_but_frames : (others : List ℕ) → SameButFrames (view_of old count current frames states) (view_of new count current others states)
  same_but_frames others = record { count = refl; current = list_kept old new keeps count are.room current are.current_is.tree_is; states = all_kept old new keeps count are.room states are.states_are }

  pub whole_kept : view_of new count current frames states ≡ view_of old count current frames states
  whole_kept =
      ap (λ (l : List (Option Kind)). record { count = count; current = l; frames = map (kinds_of new count) frames; states = map (kinds_of new count) states })
      (list_kept old new keeps count are.room current are.current_is.tree_is)
      ∙ ap (λ (l : List (List (Option Kind))). record { count = count; current = kinds_of old count current; frames = l; states = map (kinds_of new count) states })
      (all_kept old new keeps count are.room frames are.frames_are)
      ∙ ap (λ (l : List (List (Option Kind))). record { count = count; current = kinds_of old count current; frames = map (kinds_of old count) frames; states = l })
      (all_kept old new keeps count are.room states are.states_are)

-- ---- a kind is changed

module _ (old new : Forest) (count tree slot : ℕ) (kind : Option Kind) (made : ℕ) (room : count ≤ slots_of old) (within : slot < count) (keeps : KeepsTrees old new) (put : HasPut old new tree slot kind made) where
  pub put_listed : kinds_of new count made ≡ set (kinds_of old count tree) slot kind
  put_listed =
      let n = many_from old tree 0 count in
      listed_so new count made (set (kinds_of old count tree) slot kind) (length-set (kinds_of old count tree) slot kind ∙ n)
      (λ other less. elim (nat_dec other slot) [
        | inl same ↦
            ap (λ (k : ℕ). kind_in new made k) same ∙ put.here
            ∙ sym (ap (λ (k : ℕ). listed (set (kinds_of old count tree) slot kind) k) same ∙ get_or-set_same (kinds_of old count tree) slot kind None (omega (arith, n, within)))
        | inr differs ↦
            put.others other (omega (arith, less, room)) differs ∙ sym (kind_listed old count tree other less)
            ∙ sym (get_or-set_other (kinds_of old count tree) slot other kind None differs)
      ])

  pub put_short : IsShort old count tree → IsShort new count made
  put_short short = record {
    tree_is = put.tree_is;
    none = λ other past less.
        let there : other < slots_of old = subst (λ (n : ℕ). other < n) keeps.slots less in
        put.others other there (λ same. absurd (omega (arith, past, same, within))) ∙ short.none other past there;
  }

-- ---- lists of frames

pub tree_got : (forest : Forest) (count : ℕ) (trees : List ℕ) (number : ℕ) (list : List (Option Kind)) → slice_get (map (kinds_of forest count) trees) number ≡ Some list
    → kinds_of forest count (tree_at trees number) ≡ list
tree_got forest count [] number list at = absurd cc
tree_got forest count (tree ∷ trees) zero list at = cc
tree_got forest count (tree ∷ trees) (suc number) list at = tree_got forest count trees number list at

-- ---- flowing

slot_order : (x y : ℕ) → (x < y) ⊎ (y ≤ x)
slot_order x zero = inr (omega arith)
slot_order zero (suc y) = inl (omega arith)
slot_order (suc x) (suc y) = elim (slot_order x y) [ inl l ↦ inl (omega (arith, l)) | inr g ↦ inr (omega (arith, g)) ]

module _ (forest : Forest) (count a b : ℕ) (room : count ≤ slots_of forest) (first : IsShort forest count a) (second : IsShort forest count b) where
  pub lists_flow : FlowsInto forest a b → ListFlows (kinds_of forest count a) (kinds_of forest count b)
  lists_flow flows = record {
    each = λ slot kind at. elim (slot_order slot count) [
      | inl less ↦
          kind_listed forest count a slot less ∙ flows.each slot kind (omega (arith, less, room)) (sym (kind_listed forest count b slot less) ∙ at)
      | inr past ↦ absurd (let e = sym (past_listed forest count b slot past) ∙ at in cc)
    ];
  }

  pub trees_flow : ListFlows (kinds_of forest count a) (kinds_of forest count b) → FlowsInto forest a b
  trees_flow flows = record {
    each = λ slot kind within at. elim (slot_order slot count) [
      | inl less ↦
          sym (kind_listed forest count a slot less) ∙ flows.each slot kind (kind_listed forest count b slot less ∙ at)
      | inr past ↦ absurd (let e = sym (second.none slot past within) ∙ at in cc)
    ];
  }

  pub decides_lists : (b' : Bool) → Decides b' (FlowsInto forest a b) → Decides b' (ListFlows (kinds_of forest count a) (kinds_of forest count b))
  decides_lists b' d = (λ e. lists_flow (d.0 e), λ flows. d.1 (trees_flow flows))

-- ---- a list more

pub short_more : (forest : Forest) (count : ℕ) (trees new : List ℕ) (made : ℕ) → new ≡ trees ++ made ∷ [] → IsBare forest 0 → AreShort forest count trees → IsShort forest count made → AreShort forest count new
short_more forest count trees new made e bare are is = subst (AreShort forest count) (sym e) (λ number. by trees number are) where
  by : (l : List ℕ) (k : ℕ) → AreShort forest count l → IsShort forest count (tree_at (l ++ made ∷ []) k)
  by [] zero a = is
  by [] (suc k) a = a 0
  by (x ∷ l) zero a = a 0
  by (x ∷ l) (suc k) a = by l k (λ number. a (suc number))

pub list_more : (forest : Forest) (count : ℕ) (trees new : List ℕ) (made : ℕ) → new ≡ trees ++ made ∷ [] → map (kinds_of forest count) new ≡ map (kinds_of forest count) trees ++ kinds_of forest count made ∷ []
list_more forest count trees new made e = ap (λ (l : List ℕ). map (kinds_of forest count) l) e ∙ by trees where
  by : (l : List ℕ) → map (kinds_of forest count) (l ++ made ∷ []) ≡ map (kinds_of forest count) l ++ kinds_of forest count made ∷ []
  by [] = refl
  by (x ∷ l) = ap (λ (m : List (List (Option Kind))). kinds_of forest count x ∷ m) (by l)

-- ---- a list that begins as another

base_listed : (forest : Forest) (count : ℕ) (trees : List ℕ) (base slot : ℕ) → IsBare forest 0 → slot < count
    → listed (get_or (map (kinds_of forest count) trees) base []) slot ≡ kind_in forest (tree_at trees base) slot
base_listed forest count [] base slot bare within = sym (bare.none slot)
base_listed forest count (tree ∷ trees) zero slot bare within = kind_listed forest count tree slot within
base_listed forest count (tree ∷ trees) (suc base) slot bare within = base_listed forest count trees base slot bare within

module _ (old new : Forest) (count : ℕ) (frames : List ℕ) (base from : ℕ) (kinds : List (Option Kind)) (made : ℕ) (room : count ≤ slots_of old) (few : from + length kinds ≤ count) (keeps : KeepsTrees old new) (bare : IsBare old 0) (replaced : HasReplaced old new (tree_at frames base) from kinds made) where
  pub changed_so : IsChanged count (get_or (map (kinds_of old count) frames) base []) from kinds (kinds_of new count made)
  changed_so = record {
    many = many_from new made 0 count;
    before = λ slot within less.
        kind_listed new count made slot within ∙ replaced.before slot (omega (arith, within, room)) less
        ∙ sym (base_listed old count frames base slot bare within);
    after = λ slot within past. kind_listed new count made slot within ∙ replaced.after slot (omega (arith, within, room)) past;
  }

  pub replaced_short : IsShort new count made
  replaced_short = record {
    tree_is = replaced.tree_is;
    none = λ slot past within.
        let there : slot < slots_of old = subst (λ (n : ℕ). slot < n) keeps.slots within in
        replaced.after slot there (omega (arith, few, past)) ∙ past_list kinds (slot - from) (omega (arith, few, past));
  }

-- a list once more
pub changed_again : (forest : Forest) (count : ℕ) (trees : List ℕ) (base : ℕ) → IsBare forest 0
    → IsChanged count (get_or (map (kinds_of forest count) trees) base []) count [] (kinds_of forest count (tree_at trees base))
changed_again forest count trees base bare = record {
  many = many_from forest (tree_at trees base) 0 count;
  before = λ slot within less. kind_listed forest count (tree_at trees base) slot within ∙ sym (base_listed forest count trees base slot bare within);
  after = λ slot within past. absurd (omega (arith, within, past));
}

-- ---- lists by their numbers

past_got : (forest : Forest) (count : ℕ) (trees : List ℕ) (number slot : ℕ) → count ≤ slot → listed (get_or (map (kinds_of forest count) trees) number []) slot ≡ None
past_got forest count [] number slot past = refl
past_got forest count (tree ∷ trees) zero slot past = past_listed forest count tree slot past
past_got forest count (tree ∷ trees) (suc number) slot past = past_got forest count trees number slot past

module _ (forest : Forest) (count : ℕ) (states frames : List ℕ) (number frame : ℕ) (room : count ≤ slots_of forest) (bare : IsBare forest 0) where
  abbrev State : List (Option Kind)
  State = get_or (map (kinds_of forest count) states) number []

  abbrev Frame : List (Option Kind)
  Frame = get_or (map (kinds_of forest count) frames) frame []

  pub got_flows : FlowsInto forest (tree_at states number) (tree_at frames frame) → ListFlows State Frame
  got_flows flows = record {
    each = λ slot kind at. elim (slot_order slot count) [
      | inl less ↦
          base_listed forest count states number slot bare less
          ∙ flows.each slot kind (omega (arith, less, room)) (sym (base_listed forest count frames frame slot bare less) ∙ at)
      | inr past ↦ absurd (let e = sym (past_got forest count frames frame slot past) ∙ at in cc)
    ];
  }

  pub flows_got : IsShort forest count (tree_at frames frame) → ListFlows State Frame → FlowsInto forest (tree_at states number) (tree_at frames frame)
  flows_got short flows = record {
    each = λ slot kind within at. elim (slot_order slot count) [
      | inl less ↦
          sym (base_listed forest count states number slot bare less) ∙ flows.each slot kind (base_listed forest count frames frame slot bare less ∙ at)
      | inr past ↦ absurd (let e = sym (short.none slot past within) ∙ at in cc)
    ];
  }

-- ---- at first

pub bare_list : (forest : Forest) (count tree : ℕ) → IsBare forest tree → kinds_of forest count tree ≡ replicate count None
unfolding kinds_from
bare_list forest count tree bare = by 0 count where
  by : (slot n : ℕ) → kinds_from forest tree slot n ≡ replicate n None
  by slot zero = refl
  by slot (suc n) =
      ap (λ (k : Option Kind). k ∷ kinds_from forest tree (suc slot) n) (bare.none slot) ∙ ap (λ (l : List (Option Kind)). None ∷ l) (by (suc slot) n)

pub first_lists : (forest : Forest) (count : ℕ) → count ≤ slots_of forest → IsBare forest 0 → AreLists forest count 0 [] []
first_lists forest count room bare = record {
  room = room;
  bare = bare;
  current_is = short;
  frames_are = λ number. short;
  states_are = λ number. short;
} where
  short : IsShort forest count 0
  short = record { tree_is = bare.tree_is; none = λ slot past within. bare.none slot }
