-- The values with which fields begin.
use Rattle.std.proofs.Common.{◌≡◌, ℕ, zero, suc, ◌+◌, ◌<◌, Bool, true, false, List, [], ◌∷◌, ◌++◌, map, take, length, get_or, Some, None, refl, sym, ap, ◌∙◌, arith}
use Rattle.std.specs.Prelude.{slice_get}
use Rattle.std.proofs.lemmas.Option.{same_Some}
use Rattle.dj_pool.specs.trusted.Pool.{Constant}
use Rattle.dj_class.specs.declared.class.Attribute.{Attribute}
use Rattle.dj_class.specs.trusted.ClassFile.{MemberInfo}
use Rattle.dj_class.specs.Parts.{attribute_of}
use Rattle.dj_early_rules.specs.trusted.Attributes.{is_named, bodies_of, values_of}
use Rattle.dj_early_rules.proofs.NamedBodies.{body_if, flat_map_turn}
use Rattle.dj_model.specs.trusted.Program as programs
use Rattle.dj_program.specs.trusted.Naming.{constant_in, constant_of_body, constant_of_bodies}

module _ (pool : List Constant) (name : List ℕ) where
  abbrev seen_bodies : List Attribute → List (List ℕ)
  seen_bodies attributes = bodies_of pool name (map attribute_of attributes)

  abbrev own_body : Attribute → List (List ℕ)
  own_body a = body_if (is_named pool name (attribute_of a)) (attribute_of a)

  pub still_none : (attributes : List Attribute) (i : ℕ) (a : Attribute) → i < length attributes → a ≡ get_or attributes i a → is_named pool name (attribute_of a) ≡ false
      → bodies_of pool name (map attribute_of (take i attributes)) ≡ [] → bodies_of pool name (map attribute_of (take (i + 1) attributes)) ≡ []
  still_none attributes i a lt is other none =
      flat_map_turn (λ x. body_if (is_named pool name x) x) attribute_of attributes i a lt
      ∙ ap (λ (bodies : List (List ℕ)). bodies ++ own_body (get_or attributes i a)) none
      ∙ ap own_body (sym is)
      ∙ ap (λ (b : Bool). body_if b (attribute_of a)) other

  pub first_body : (attributes : List Attribute) (i : ℕ) (a : Attribute) → i < length attributes → a ≡ get_or attributes i a → is_named pool name (attribute_of a) ≡ true
      → bodies_of pool name (map attribute_of (take i attributes)) ≡ [] → Some a.body.now ≡ slice_get (bodies_of pool name (map attribute_of attributes)) 0
  first_body [] i a lt is named none = absurd (omega arith)
  first_body (x ∷ attributes) zero a lt is named none = by (is_named pool name (attribute_of x)) (ap (λ (y : Attribute). is_named pool name (attribute_of y)) (sym is) ∙ named) where
    by : (b : Bool) → b ≡ true → Some a.body.now ≡ slice_get (body_if b (attribute_of x) ++ seen_bodies attributes) 0
    by true e = ap (λ (y : Attribute). Some y.body.now) is
    by false e = absurd cc
  first_body (x ∷ attributes) (suc i) a lt is named none =
      by (is_named pool name (attribute_of x)) none (first_body attributes i a (omega arith) is named) where
        by : (b : Bool) → (body_if b (attribute_of x) ++ seen_bodies (take i attributes)) ≡ [] → (seen_bodies (take i attributes) ≡ [] → Some a.body.now ≡ slice_get (seen_bodies attributes) 0)
            → Some a.body.now ≡ slice_get (body_if b (attribute_of x) ++ seen_bodies attributes) 0
        by true e rest = absurd cc
        by false e rest = rest e

bodies_reported : (pool : List Constant) (bodies : List (List ℕ)) (body : List ℕ) → Some body ≡ slice_get bodies 0 → constant_of_bodies pool bodies ≡ Some (constant_of_body pool body)
bodies_reported pool [] body e = absurd cc
bodies_reported pool (b ∷ bodies) body e = ap (λ (x : List ℕ). Some (constant_of_body pool x)) (same_Some b body (sym e))

pub value_reported : (pool : List Constant) (f : MemberInfo) (body : List ℕ) (value : programs.Constant) → Some body ≡ slice_get (values_of pool f) 0 → value ≡ constant_of_body pool body → Some value ≡ constant_in pool f
unfolding constant_in
value_reported pool f body value e is = ap Some is ∙ sym (bodies_reported pool (values_of pool f) body e)

none_of_none : (pool : List Constant) (bodies : List (List ℕ)) → None ≡ slice_get bodies 0 → constant_of_bodies pool bodies ≡ None
none_of_none pool [] e = refl
none_of_none pool (b ∷ bodies) e = absurd cc

pub no_value_reported : (pool : List Constant) (f : MemberInfo) → None ≡ slice_get (values_of pool f) 0 → None ≡ constant_in pool f
unfolding constant_in
no_value_reported pool f e = sym (none_of_none pool (values_of pool f) e)
