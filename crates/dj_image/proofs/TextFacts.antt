-- Sets of texts that grow.
use Rattle.std.proofs.Common.{◌≡◌, ◌↔◌, ℕ, ◌+◌, ◌<◌, ◌≤◌, ◌⊎◌, Bool, true, false, List, [], ◌∷◌, ◌++◌, map, take, length, get_or, Option, Some, None, refl, sym, ap, subst, ◌∙◌, inl, inr, Contains, Ordering}
use Rattle.std.specs.declared.cmp.Ordering.TheVariants.{Less, Equal, Greater}
use Rattle.std.specs.Global.{Vec}
use Rattle.std.specs.Prelude.{◌||◌, Result, Ok, Err, OnOk}
use Rattle.std.specs.Ordering.{nat_cmp, is_eq, match_ordering}
use Rattle.std.specs.Cmp.Lexicographic.{slice_cmp}
use Rattle.std.specs.List.{AllByRecursion, filter_map, list_any}
use Rattle.std.specs.List.Sorted.{IsStrictlySortedBy}
use Rattle.std.specs.BTreeMap.{is_at}
use Rattle.std.specs.BTreeSet.{insert_key}
use Rattle.std.proofs.lemmas.List.{take_all, append_assoc, append-nil}
use Rattle.std.proofs.lemmas.List.Elements.{Contains-append_left, Contains-push, Contains-push_cases, All-get_or, All-from_recursion}
use Rattle.dj_names.specs.trusted.Types.{Name}
use Rattle.dj_pool.specs.trusted.Pool.{Constant}
use Rattle.dj_declarations.specs.trusted.Files.{name_in}
use Rattle.dj_program.specs.trusted.Naming.{units_in}
use Rattle.dj_image.specs.declared.parts.ClassParts.{ClassParts}
use Rattle.dj_image.specs.declared.parts.FieldValue.{FieldValue}
use Rattle.dj_image.specs.declared.parts.FieldValue.TheVariants as values
use Rattle.dj_image.specs.declared.uses.Use.{Use}
use Rattle.dj_image.specs.declared.uses.Use.TheVariants as uses
use Rattle.dj_image.specs.Uses.{SameMembers, pushed_text, value_use, value_uses}
use Rattle.dj_image.specs.Texts.{key_items, RiseStrictly, HasPool, value_texts, texts_in, texts_of}
use Rattle.dj_image.proofs.RowFacts.{same_items}
use Rattle.dj_image.proofs.Members.{member_first, member_later, member_cases, same_append, same_filter_map}
use Rattle.std.specs.Option.{option_to_list}
use Rattle.dj_image.proofs.Wholes.{filter_map_more}
use Rattle.dj_image.proofs.UseLists.{same_itself, same_joined, flat_map_more}

abbrev order : Vec ℕ → Vec ℕ → Ordering
order x y = slice_cmp nat_cmp x.items y.items

equal_from : (r : Ordering) → is_eq r ≡ true → r ≡ Equal
equal_from Less e = absurd cc
equal_from Equal e = refl
equal_from Greater e = absurd cc

-- a text that is found is there
pub found_there : (text : Name) (keys : List (Vec ℕ)) → list_any (is_at (λ (key : Vec ℕ). slice_cmp nat_cmp text key.items)) keys ≡ true → Contains (map key_items keys) text
found_there text [] e = absurd cc
found_there text (x ∷ xs) e = by (is_eq (slice_cmp nat_cmp text x.items)) refl e (found_there text xs) where
  by : (b : Bool) → is_eq (slice_cmp nat_cmp text x.items) ≡ b → (b || list_any (is_at (λ (key : Vec ℕ). slice_cmp nat_cmp text key.items)) xs) ≡ true
      → (list_any (is_at (λ (key : Vec ℕ). slice_cmp nat_cmp text key.items)) xs ≡ true → Contains (map key_items xs) text) → Contains (x.items ∷ map key_items xs) text
  by true is t rest = subst (λ (u : Name). Contains (x.items ∷ map key_items xs) u) (sym (same_items text x.items (equal_from (slice_cmp nat_cmp text x.items) is))) (member_first x.items (map key_items xs))
  by false is t rest = member_later x.items (map key_items xs) text (rest t)

-- ---- with one more

abbrev Grown : List (Vec ℕ) → List (Vec ℕ) → Vec ℕ → Type 0
Grown new old key = (v : Name) → Contains (map key_items new) v ↔ (Contains (map key_items old) v ⊎ (key.items ≡ v))

grown_first : (xs : List (Vec ℕ)) (key : Vec ℕ) → Grown (key ∷ xs) xs key
grown_first xs key = λ v. (
  λ m. elim (member_cases key.items (map key_items xs) v m) [ inl same ↦ inr same | inr later ↦ inl later ],
  λ e. elim e [ inl old ↦ member_later key.items (map key_items xs) v old | inr same ↦ subst (λ (u : Name). Contains (key.items ∷ map key_items xs) u) same (member_first key.items (map key_items xs)) ],
)

grown_by : (x : Vec ℕ) (xs : List (Vec ℕ)) (key : Vec ℕ) (r : Ordering) → order key x ≡ r → Grown (insert_key order xs key) xs key → Grown (match_ordering r (key ∷ x ∷ xs) (x ∷ xs) (x ∷ insert_key order xs key)) (x ∷ xs) key
grown_by x xs key Less is rest = grown_first (x ∷ xs) key
grown_by x xs key Equal is rest = λ v. (
  λ m. inl m,
  λ e. elim e [ inl old ↦ old | inr same ↦ subst (λ (u : Name). Contains (x.items ∷ map key_items xs) u) (sym (same_items key.items x.items is) ∙ same) (member_first x.items (map key_items xs)) ],
)
grown_by x xs key Greater is rest = λ v. (
  λ m. elim (member_cases x.items (map key_items (insert_key order xs key)) v m) [
    | inl same ↦ inl (subst (λ (u : Name). Contains (x.items ∷ map key_items xs) u) same (member_first x.items (map key_items xs)))
    | inr later ↦ elim ((rest v).0 later) [ inl old ↦ inl (member_later x.items (map key_items xs) v old) | inr own ↦ inr own ]
  ],
  λ e. elim e [
    | inl old ↦ elim (member_cases x.items (map key_items xs) v old) [
      | inl same ↦ subst (λ (u : Name). Contains (x.items ∷ map key_items (insert_key order xs key)) u) same (member_first x.items (map key_items (insert_key order xs key)))
      | inr later ↦ member_later x.items (map key_items (insert_key order xs key)) v ((rest v).1 (inl later))
    ]
    | inr own ↦ member_later x.items (map key_items (insert_key order xs key)) v ((rest v).1 (inr own))
  ],
)

grown : (keys : List (Vec ℕ)) (key : Vec ℕ) → Grown (insert_key order keys key) keys key
grown [] key = grown_first [] key
grown (x ∷ xs) key = grown_by x xs key (order key x) refl (grown xs key)

pub text_more : (old new : List (Vec ℕ)) (key : Vec ℕ) (units : Name) (all : List Name) → new ≡ insert_key order old key → key.items ≡ units → SameMembers (map key_items old) all → SameMembers (map key_items new) (all ++ units ∷ [])
text_more old new key units all is key_is same = subst (λ (ks : List (Vec ℕ)). SameMembers (map key_items ks) (all ++ units ∷ [])) (sym is) (λ v. (
  λ m. elim ((grown old key v).0 m) [
    | inl was ↦ Contains-append_left all (units ∷ []) v ((same v).0 was)
    | inr own ↦ subst (λ (u : Name). Contains (all ++ units ∷ []) u) (sym key_is ∙ own) (Contains-push all units)
  ],
  λ m. elim (Contains-push_cases all units v m) [ inl was ↦ (grown old key v).1 (inl ((same v).1 was)) | inr own ↦ (grown old key v).1 (inr (key_is ∙ own)) ],
))

-- ---- of a class, and of all

-- what uses push, of which these are listed
pub same_texts : (pool : List Constant) (own uses listed : List Use) (all now : List Name) → SameMembers uses own → listed ≡ uses → SameMembers now (all ++ filter_map (pushed_text pool) listed)
    → SameMembers now (all ++ filter_map (pushed_text pool) own)
same_texts pool own uses listed all now kept is same =
    let members : SameMembers listed own = subst (λ (us : List Use). SameMembers us own) (sym is) kept in
    same_joined now (all ++ filter_map (pushed_text pool) listed) (all ++ filter_map (pushed_text pool) own) same
    (same_append all all (filter_map (pushed_text pool) listed) (filter_map (pushed_text pool) own) (same_itself all) (same_filter_map (pushed_text pool) listed own members))

-- the texts with which fields begin are those of their uses
texts_by_use : (pool : List Constant) (vs : List (Option FieldValue)) → filter_map (pushed_text pool) (filter_map value_use vs) ≡ value_texts pool vs
texts_by_use pool [] = refl
texts_by_use pool (None ∷ vs) = texts_by_use pool vs
texts_by_use pool (Some (values.Int z) ∷ vs) = texts_by_use pool vs
texts_by_use pool (Some (values.Long z) ∷ vs) = texts_by_use pool vs
texts_by_use pool (Some values.Unfit ∷ vs) = texts_by_use pool vs
texts_by_use pool (Some (values.Text index) ∷ vs) = ap (λ (texts : List Name). units_in (name_in pool index) ∷ texts) (texts_by_use pool vs)

pub same_values : (parts : ClassParts) (uses listed : List Use) (all now : List Name) → SameMembers uses (value_uses parts) → listed ≡ uses → SameMembers now (all ++ filter_map (pushed_text parts.pool) listed)
    → SameMembers now (all ++ value_texts parts.pool parts.values.items)
same_values parts uses listed all now kept is same =
    subst (λ (texts : List Name). SameMembers now (all ++ texts)) (texts_by_use parts.pool parts.values.items)
    (same_texts parts.pool (value_uses parts) uses listed all now kept is same)

pub class_text_step : (parts : List ClassParts) (i : ℕ) (d one : ClassParts) (now : List Name) → i < length parts → one ≡ get_or parts i d → SameMembers now (texts_of (take i parts) ++ texts_in one) → SameMembers now (texts_of (take (i + 1) parts))
class_text_step parts i d one now within is same =
    subst (λ (xs : List Name). SameMembers now xs) (ap (λ (p : ClassParts). texts_of (take i parts) ++ texts_in p) is ∙ sym (flat_map_more texts_in parts i d within)) same

pub has_pool : (parts : List ClassParts) (i : ℕ) (one : ClassParts) → AllByRecursion HasPool parts → i < length parts → one ≡ get_or parts i one → HasPool one
has_pool parts i one all within is = subst HasPool (sym is) (All-get_or HasPool parts i one within (All-from_recursion HasPool parts all))

pub class_texts_join : (all xs ys now : List Name) → SameMembers now ((all ++ xs) ++ ys) → SameMembers now (all ++ (xs ++ ys))
class_texts_join all xs ys now same = subst (λ (zs : List Name). SameMembers now zs) (append_assoc all xs ys) same

rising : (keys : List (Vec ℕ)) → IsStrictlySortedBy order keys → RiseStrictly (map key_items keys)
unfolding IsStrictlySortedBy
rising [] up = tt
rising (x ∷ xs) up = (above xs up.0, rising xs up.1) where
  above : (ys : List (Vec ℕ)) → AllByRecursion (λ (y : Vec ℕ). order x y ≡ Less) ys → AllByRecursion (λ (t : Name). slice_cmp nat_cmp x.items t ≡ Less) (map key_items ys)
  above [] all = tt
  above (y ∷ ys) all = (all.0, above ys all.1)

pub listed_rise : (keys : List (Vec ℕ)) (items : List Name) → items ≡ map key_items keys → IsStrictlySortedBy order keys → RiseStrictly items
listed_rise keys items is up = subst RiseStrictly (sym is) (rising keys up)

pub text_step : {A : Type 0} (f : A → Option Name) (xs : List A) (i : ℕ) (d one : A) (all now : List Name) → i < length xs → one ≡ get_or xs i d
    → SameMembers now ((all ++ filter_map f (take i xs)) ++ option_to_list (f one)) → SameMembers now (all ++ filter_map f (take (i + 1) xs))
text_step {A} f xs i d one all now within is same =
    subst (λ (ys : List Name). SameMembers now ys)
    (append_assoc all (filter_map f (take i xs)) (option_to_list (f one))
    ∙ ap (λ (x : A). all ++ (filter_map f (take i xs) ++ option_to_list (f x))) is
    ∙ ap (λ (ys : List Name). all ++ ys) (sym (filter_map_more f xs i d within)))
    same

pub no_more : (all now : List Name) → SameMembers now all → SameMembers now (all ++ [])
no_more all now same = subst (λ (ys : List Name). SameMembers now ys) (sym (append-nil all)) same

pub all_added : {A : Type 0} (f : A → Option Name) (xs : List A) (i : ℕ) (all now : List Name) → length xs ≤ i → SameMembers now (all ++ filter_map f (take i xs)) → SameMembers now (all ++ filter_map f xs)
all_added {A} f xs i all now past same = subst (λ (ys : List A). SameMembers now (all ++ filter_map f ys)) (take_all i xs past) same

pub ok_then : {T E : Type 0} (r : Result T E) (P Q : Type 0) → OnOk r P → (P → Q) → OnOk r Q
ok_then (Ok x) P Q p f = f p
ok_then (Err e) P Q p f = tt

pub not_pushed : (pool : List Constant) (one : Use) → ((index : ℕ) → one ≡ uses.Pushed index → ⊥) → pushed_text pool one ≡ None
not_pushed pool (uses.Pushed index) other = absurd (other index refl)
not_pushed pool (uses.Itself index) other = refl
not_pushed pool (uses.Element index) other = refl
not_pushed pool (uses.Base index) other = refl

pub nothing_more : (o : Option Name) (all now : List Name) → o ≡ None → SameMembers now all → SameMembers now (all ++ option_to_list o)
nothing_more o all now none same = subst (λ (x : Option Name). SameMembers now (all ++ option_to_list x)) (sym none) (no_more all now same)

pub class_texts_done : (parts : List ClassParts) (i : ℕ) (items now : List Name) → length parts ≤ i → items ≡ now → SameMembers now (texts_of (take i parts)) → SameMembers items (texts_of parts)
class_texts_done parts i items now past is same = subst (λ (xs : List Name). SameMembers xs (texts_of parts)) (sym is) (subst (λ (ps : List ClassParts). SameMembers now (texts_of ps)) (take_all i parts past) same)
