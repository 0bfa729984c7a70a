-- What is known of the two small programs, by computing.
use Rattle.std.proofs.Common.{◌≡◌, ℕ, zero, suc, ◌<◌, Bool, true, false, List, [], ◌∷◌, map, length, Option, Some, None, unwrap_or, refl, sym, ap, subst, ◌∙◌, arith}
use Rattle.std.specs.Borrow.{Bor}
use Rattle.std.specs.Prelude.{slice_get, get_or}
use Rattle.std.specs.Option.{option_map}
use Rattle.std.proofs.lemmas.List.{length-map}
use Rattle.std.proofs.lemmas.Option.{none-some, same_Some, slice_get-map, slice_get-get_or, unwrap_or-slice_get}
use Rattle.dj_names.specs.declared.descriptor.Ty.{Ty}
use Rattle.dj_names.specs.trusted.Types.{Name, class_type, component_type}
use Rattle.dj_model.specs.trusted.Linking.{is_subtype}
use Rattle.dj_model.specs.trusted.Natives.{class_name}
use Rattle.dj_library_types.specs.Numbered.{type_at, holds_references, begins_array, ArePlain, HasNumber, HaveComponents}
use Rattle.dj_natives_tests.specs.Few.{AllAt, EachBelow, few_types, few_program, few_prefix, few_names, few_below, lent_lists}

-- ---- one of all

pub all_at : {A : Type 0} (P : ℕ → A → Type 0) (xs : List A) (k : ℕ) (x : A) → AllAt P xs → slice_get xs k ≡ Some x → P k x
all_at P [] k x all e = absurd (none-some x e)
all_at P (y ∷ xs) zero x all e = subst (P 0) (same_Some y x e) all.0
all_at P (y ∷ xs) (suc k) x all e = all_at (λ j. P (suc j)) xs k x all.1 e

pub each_below : (P : ℕ → Type 0) (n k : ℕ) → EachBelow P n → k < n → P k
each_below P zero k each less = absurd (omega (arith, less))
each_below P (suc n) zero each less = each.0
each_below P (suc n) (suc k) each less = each_below (λ j. P (suc j)) n k each.1 (omega (arith, less))

-- a list that is lent, and one that is mapped at the same place
pub lent_at : {A : Type 0} (lists : List (Bor (List A))) (k : ℕ) (list : Bor (List A)) → slice_get lists k ≡ Some list → slice_get (lent_lists lists) k ≡ Some list.now
lent_at lists k list e = slice_get-map (λ l. l.now) lists k ∙ ap (option_map (λ l. l.now)) e

pub mapped_at : {A B : Type 0} (f : A → B) (xs : List A) (k : ℕ) (fill : A) (y : B) → slice_get (map f xs) k ≡ Some y → y ≡ f (unwrap_or (slice_get xs k) fill)
mapped_at f [] k fill y e = absurd (none-some y e)
mapped_at f (x ∷ xs) zero fill y e = sym (same_Some (f x) y e)
mapped_at f (x ∷ xs) (suc k) fill y e = mapped_at f xs k fill y e

-- ---- what lists contain

pub type_there : (types : List Ty) (k : ℕ) → k < length types → slice_get types k ≡ Some (type_at types k)
type_there types k less =
    slice_get-get_or types k (class_type []) less ∙ ap Some (sym (unwrap_or-slice_get types k (class_type [])))

-- what is mapped stands at the same place
mapped_is : {B : Type 0} (f : Ty → B) (types : List Ty) (ys : List B) (k : ℕ) (y : B) → ys ≡ map f types → k < length types → slice_get ys k ≡ Some y → y ≡ f (type_at types k)
mapped_is f types ys k y same less e =
    same_Some y (f (type_at types k)) (sym e ∙ ap (λ l. slice_get l k) same ∙ slice_get-map f types k ∙ ap (option_map f) (type_there types k less))

within : {B : Type 0} (f : Ty → B) (types : List Ty) (ys : List B) (k : ℕ) → ys ≡ map f types → k < length types → k < length ys
within f types ys k same less = let long : length ys ≡ length types = ap length same ∙ length-map types f in omega (arith, long, less)

lent_is : {A : Type 0} (f : Ty → List A) (types : List Ty) (lists : List (Bor (List A))) (k : ℕ) (fill : Bor (List A)) → lent_lists lists ≡ map f types → k < length types
    → (get_or lists k fill).now ≡ f (type_at types k)
lent_is f types lists k fill same less =
    let long : length (lent_lists lists) ≡ length lists = length-map lists (λ l. l.now) in
    let there = within f types (lent_lists lists) k same less in
    mapped_is f types (lent_lists lists) k (get_or lists k fill).now same less (lent_at lists k (get_or lists k fill) (slice_get-get_or lists k fill (omega (arith, long, there))))

pub name_is : (boxed : Bool) (lists : List (Bor Name)) (k : ℕ) (fill : Bor Name) → lent_lists lists ≡ few_names boxed → k < length (few_types boxed)
    → (get_or lists k fill).now ≡ class_name (type_at (few_types boxed) k)
name_is boxed lists k fill same less = lent_is class_name (few_types boxed) lists k fill same less

-- those of a class or an array
abbrev pub below_row : Bool → Ty → List Bool
below_row boxed a = map (is_subtype (few_program boxed) (few_prefix boxed) a) (few_types boxed)

pub row_is : (boxed : Bool) (lists : List (Bor (List Bool))) (k : ℕ) (fill : Bor (List Bool)) → lent_lists lists ≡ few_below boxed → k < length (few_types boxed)
    → (get_or lists k fill).now ≡ below_row boxed (type_at (few_types boxed) k)
row_is boxed lists k fill same less = lent_is (below_row boxed) (few_types boxed) lists k fill same less

pub row_within : (boxed : Bool) (lists : List (Bor (List Bool))) (a b : ℕ) (fill : Bor (List Bool)) → lent_lists lists ≡ few_below boxed → a < length (few_types boxed)
    → b < length (few_types boxed) → b < length (get_or lists a fill).now
row_within boxed lists a b fill same first second =
    within (is_subtype (few_program boxed) (few_prefix boxed) (type_at (few_types boxed) a)) (few_types boxed) (get_or lists a fill).now b (row_is boxed lists a fill same first) second

pub below_is : (boxed : Bool) (lists : List (Bor (List Bool))) (a b : ℕ) (fill : Bor (List Bool)) → lent_lists lists ≡ few_below boxed → a < length (few_types boxed)
    → b < length (few_types boxed)
    → get_or (get_or lists a fill).now b false ≡ is_subtype (few_program boxed) (few_prefix boxed) (type_at (few_types boxed) a) (type_at (few_types boxed) b)
below_is boxed lists a b fill same first second =
    let row : List Bool = (get_or lists a fill).now in
    mapped_is (is_subtype (few_program boxed) (few_prefix boxed) (type_at (few_types boxed) a)) (few_types boxed) row b (get_or row b false) (row_is boxed lists a fill same first) second
    (slice_get-get_or row b false (row_within boxed lists a b fill same first second))

pub reported_at : {A : Type 0} (P : ℕ → A → Type 0) (items : List A) (k count : ℕ) (fill : A) → AllAt P items → length items ≡ count → k < count → P k (get_or items k fill)
reported_at P items k count fill all long less = all_at P items k (get_or items k fill) all (slice_get-get_or items k fill (omega (arith, long, less)))

-- ---- laws

abbrev IsPlain : Bool → ℕ → Type 0
IsPlain boxed k = (type_at (few_types boxed) k).dims ≡ 0 → begins_array (class_name (type_at (few_types boxed) k)) ≡ false

pub are_plain : (boxed : Bool) → ArePlain (few_types boxed)
are_plain false k less = each_below (IsPlain false) 19 k (λ e. refl, (λ e. refl, (λ e. refl, (λ e. refl, (λ e. refl, (λ e. refl, (λ e. refl, (λ e. refl, (λ e. refl, (λ e. refl, (λ e. refl, (λ e. absurd cc, (λ e. absurd cc, (λ e. absurd cc, (λ e. absurd cc, (λ e. absurd cc, (λ e. absurd cc, (λ e. absurd cc, (λ e. absurd cc, tt))))))))))))))))))) less
are_plain true k less = each_below (IsPlain true) 7 k (λ e. refl, (λ e. refl, (λ e. refl, (λ e. refl, (λ e. absurd cc, (λ e. absurd cc, (λ e. absurd cc, tt))))))) less

abbrev HasComponent : Bool → ℕ → Type 0
HasComponent boxed k = holds_references (type_at (few_types boxed) k) ≡ true → HasNumber (few_types boxed) (component_type (type_at (few_types boxed) k))

pub have_components : (boxed : Bool) → HaveComponents (few_types boxed)
have_components false k less = each_below (HasComponent false) 19 k (λ e. absurd cc, (λ e. absurd cc, (λ e. absurd cc, (λ e. absurd cc, (λ e. absurd cc, (λ e. absurd cc, (λ e. absurd cc, (λ e. absurd cc, (λ e. absurd cc, (λ e. absurd cc, (λ e. absurd cc, (λ e. absurd cc, (λ e. absurd cc, (λ e. absurd cc, (λ e. absurd cc, (λ e. record { number = 4; at = refl }, (λ e. record { number = 6; at = refl }, (λ e. absurd cc, (λ e. absurd cc, tt))))))))))))))))))) less
have_components true k less = each_below (HasComponent true) 7 k (λ e. absurd cc, (λ e. absurd cc, (λ e. absurd cc, (λ e. absurd cc, (λ e. absurd cc, (λ e. absurd cc, (λ e. record { number = 3; at = refl }, tt))))))) less
