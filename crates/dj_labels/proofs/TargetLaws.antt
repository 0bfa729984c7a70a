-- Targets and their numbers, one after the other.
use Rattle.std.proofs.Common.{◌≡◌, ℕ, ◌+◌, ◌<◌, ℤ, pos, List, [], ◌∷◌, ◌++◌, map, length, take, get_or, Contains, w64, SFits, to_z, of_z, refl, sym, ap, subst, ◌∙◌, arith}
use Rattle.std.specs.List.{AllByRecursion}
use Rattle.std.specs.Int.{FitsUnsignedBits}
use Rattle.std.proofs.lemmas.Int.{ints, to_z-of_z}
use Rattle.std.proofs.lemmas.List.{length-map, get_or-map, map_push, take_more}
use Rattle.std.proofs.lemmas.List.Elements.{All-from_recursion}
use Rattle.dj_labels.specs.declared.errors.CodeError.{CodeError}
use Rattle.dj_labels.specs.declared.errors.CodeError.TheVariants as errors
use Rattle.dj_labels.specs.trusted.Labels.{IsNumber, address_of}
use Rattle.dj_labels.specs.Passes.{AreNumbers, ArePairs, LacksStart}
use Rattle.dj_labels.proofs.Lists.{each_more}

-- a list lacks what one of its items lacks
pub lacks_at : (starts : List ℕ) (at : ℕ) (targets : List ℤ) (i : ℕ) (target : ℤ) (e : CodeError) → i < length targets → target ≡ get_or targets i target → LacksStart starts at (target ∷ []) e → LacksStart starts at targets e
lacks_at starts at targets i target (errors.Target address) within here h =
    (h.0, λ each. h.1 (subst (Contains (map pos starts)) (sym here) (All-from_recursion (Contains (map pos starts)) targets each i target within), tt))
lacks_at starts at targets i target (errors.Op address) within here h = h
lacks_at starts at targets i target (errors.Range number) within here h = h
lacks_at starts at targets i target errors.Memory within here h = tt

pub numbers_none : (starts : List ℕ) → AreNumbers starts [] []
numbers_none starts = record { each = tt; start = refl }

pub numbers_more : (starts : List ℕ) (targets numbers : List ℤ) (i : ℕ) (target number : ℤ) → i < length targets → target ≡ get_or targets i target → AreNumbers starts (take i targets) numbers → AreNumbers starts (target ∷ []) (number ∷ []) → AreNumbers starts (take (i + 1) targets) (numbers ++ number ∷ [])
numbers_more starts targets numbers i target number within here h is = record {
  each = each_more (IsNumber (length starts)) numbers number h.each is.each.0;
  start =
      map_push (address_of starts) numbers number
      ∙ ap (λ (l : List ℤ). l ++ address_of starts number ∷ []) h.start
      ∙ ap (λ (l : List ℤ). take i targets ++ l) is.start
      ∙ ap (λ (t : ℤ). take i targets ++ t ∷ []) here
      ∙ sym (take_more targets i target within);
}

pub pairs_none : (starts : List ℕ) → ArePairs starts [] []
pairs_none starts = record { each = tt; start = refl }

pub pairs_more : (starts : List ℕ) (pairs numbered : List (ℤ × ℤ)) (i : ℕ) (key target number : ℤ) → i < length pairs → (key, target) ≡ get_or pairs i (key, target) → ArePairs starts (take i pairs) numbered → AreNumbers starts (target ∷ []) (number ∷ []) → ArePairs starts (take (i + 1) pairs) (numbered ++ (key, number) ∷ [])
pairs_more starts pairs numbered i key target number within here h is = record {
  each = subst (AllByRecursion (IsNumber (length starts))) (sym (map_push (λ (pair : ℤ × ℤ). pair.1) numbered (key, number))) (each_more (IsNumber (length starts)) (map (λ (pair : ℤ × ℤ). pair.1) numbered) number h.each is.each.0);
  start =
      map_push (λ (pair : ℤ × ℤ). (pair.0, address_of starts pair.1)) numbered (key, number)
      ∙ ap (λ (l : List (ℤ × ℤ)). l ++ (key, address_of starts number) ∷ []) h.start
      ∙ ap (λ (l : List ℤ). take i pairs ++ (key, get_or l 0 (pos 0)) ∷ []) is.start
      ∙ ap (λ (p : ℤ × ℤ). take i pairs ++ p ∷ []) here
      ∙ sym (take_more pairs i (key, target) within);
}

pub pairs_lack : (starts : List ℕ) (at : ℕ) (pairs : List (ℤ × ℤ)) (i : ℕ) (key target : ℤ) (e : CodeError) → i < length pairs → (key, target) ≡ get_or pairs i (key, target) → LacksStart starts at (target ∷ []) e → LacksStart starts at (map (λ pair. pair.1) pairs) e
pairs_lack starts at pairs i key target e within here h =
    let second : ℤ × ℤ → ℤ = λ pair. pair.1 in
    lacks_at starts at (map second pairs) i target e (omega (arith, within, length-map pairs second)) (ap second here ∙ sym (get_or-map second pairs i (key, target) target within)) h

pub unfit_lacks : (starts : List ℕ) (target : ℤ) → SFits w64 target → (FitsUnsignedBits 64 (to_z w64 (of_z w64 target)) → ⊥) → Contains (map pos starts) target → ⊥
unfit_lacks starts target fits unfit there =
    let within : there.0 < length starts = omega (arith, there.1, length-map starts pos) in
    let here : target ≡ pos (get_or starts there.0 0) = sym there.2 ∙ get_or-map pos starts there.0 0 target within in
    let size = fits.sfits in
    unfit (subst (FitsUnsignedBits 64) (sym (to_z-of_z w64 target fits ∙ here)) (omega (arith, ints, size, here)))

pub lacks_first : (starts : List ℕ) (at : ℕ) (target : ℤ) (targets : List ℤ) (e : CodeError) → SFits w64 target → LacksStart starts at (to_z w64 (of_z w64 target) ∷ []) e → LacksStart starts at (target ∷ targets) e
lacks_first starts at target targets e fits h =
    lacks_at starts at (target ∷ targets) 0 target e (omega arith) refl (subst (λ (t : ℤ). LacksStart starts at (t ∷ []) e) (to_z-of_z w64 target fits) h)
