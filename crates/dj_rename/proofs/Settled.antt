-- Each text that is needed is among those that are appended.
use Rattle.std.proofs.Common.{◌≡◌, ℕ, suc, Bool, true, false, ◌||◌, List, [], ◌∷◌, Some, slice_get, refl, sym, ap, subst}
use Rattle.std.specs.Prelude.{nat_eq}
use Rattle.std.specs.List.{AllByRecursion, list_any}
use Rattle.std.proofs.lemmas.Bool.{eq-eqb}
use Rattle.dj_names.specs.trusted.Types.{Name}
use Rattle.dj_pool.specs.trusted.Pool.{Constant, Utf8, Integer, Float, Long, Double, Class, Text, Field, Method, InterfaceMethod, NameAndType, Handle, MethodType, Dynamic, Hole, constant_at}
use Rattle.dj_rename.specs.declared.wanted.Role.TheVariants as roles
use Rattle.dj_rename.specs.declared.wanted.Wanted.{Wanted}
use Rattle.dj_rename.specs.Pools.{class_need, desc_need, appended_texts}
use Rattle.dj_rename.specs.Renaming.{wanted_by, wanted_need, IsSettled}
use Rattle.dj_rename.specs.Redirecting.{AreSettled}
use Rattle.dj_rename.proofs.PoolLaws.{is_settled, class_is_needed, desc_is_needed, type_is_needed, member_is_needed}

some_same : {A : Type 0} (a b : A) → Some a ≡ Some b → a ≡ b
some_same a b e = cc

module _ (pool : List Constant) (members : List ℕ) where
  constant_settled : (of i : ℕ) (k : Constant) (w : Wanted) → constant_at pool i ≡ Some k → Some w ≡ wanted_by of k → IsSettled pool (appended_texts pool members) (wanted_need pool w)
  constant_settled of i (Class n) w h e =
      subst (λ (x : Wanted). IsSettled pool (appended_texts pool members) (wanted_need pool x)) (sym (some_same w (record { of = of; index = n; role = roles.Class }) e))
      (is_settled pool members (class_need pool 0 n) (class_is_needed pool members i n h))
  constant_settled of i (NameAndType n d) w h e =
      subst (λ (x : Wanted). IsSettled pool (appended_texts pool members) (wanted_need pool x)) (sym (some_same w (record { of = of; index = d; role = roles.Desc }) e))
      (is_settled pool members (desc_need pool 0 d) (desc_is_needed pool members i n d h))
  constant_settled of i (MethodType d) w h e =
      subst (λ (x : Wanted). IsSettled pool (appended_texts pool members) (wanted_need pool x)) (sym (some_same w (record { of = of; index = d; role = roles.Desc }) e))
      (is_settled pool members (desc_need pool 0 d) (type_is_needed pool members i d h))
  constant_settled of i (Utf8 t) w h e = absurd cc
  constant_settled of i (Integer x) w h e = absurd cc
  constant_settled of i (Float x) w h e = absurd cc
  constant_settled of i (Long x) w h e = absurd cc
  constant_settled of i (Double x) w h e = absurd cc
  constant_settled of i (Text x) w h e = absurd cc
  constant_settled of i (Field x y) w h e = absurd cc
  constant_settled of i (Method x y) w h e = absurd cc
  constant_settled of i (InterfaceMethod x y) w h e = absurd cc
  constant_settled of i (Handle x y) w h e = absurd cc
  constant_settled of i (Dynamic x y) w h e = absurd cc
  constant_settled of i Hole w h e = absurd cc

  pub are_settled : (texts : List Name) → texts ≡ appended_texts pool members → AreSettled pool texts
  are_settled texts same of i k w h e = subst (λ (l : List Name). IsSettled pool l (wanted_need pool w)) (sym same) (constant_settled of i k w h e)

  module _ (texts : List Name) (same : texts ≡ appended_texts pool members) where
    settled_from : (list : List ℕ) → ((desc : ℕ) → list_any (nat_eq desc) list ≡ true → list_any (nat_eq desc) members ≡ true)
        → AllByRecursion (λ (desc : ℕ). IsSettled pool texts (desc_need pool desc desc)) list
    settled_from [] within = tt
    settled_from (desc ∷ list) within = (
      subst (λ (l : List Name). IsSettled pool l (desc_need pool desc desc)) (sym same)
          (is_settled pool members (desc_need pool desc desc) (member_is_needed pool members desc (within desc (ap (λ (b : Bool). b || list_any (nat_eq desc) list) (eq-eqb desc desc refl))))),
      settled_from list (λ d h. within d (later (nat_eq d desc) (list_any (nat_eq d) list) h)),
    ) where
      later : (a b : Bool) → b ≡ true → (a || b) ≡ true
      later true b h = refl
      later false b h = h

    pub descs_settled : AllByRecursion (λ (desc : ℕ). IsSettled pool texts (desc_need pool desc desc)) members
    descs_settled = settled_from members (λ desc h. h)

pub settled_at : (pool : List Constant) (texts : List Name) (place of : ℕ) (k : Constant) (w : Wanted) → AreSettled pool texts → slice_get pool place ≡ Some k → Some w ≡ wanted_by of k → IsSettled pool texts (wanted_need pool w)
settled_at pool texts place of k w settled at e = settled of (suc place) k w at e
