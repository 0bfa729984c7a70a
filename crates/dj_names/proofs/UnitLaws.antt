-- A unit that is read is spelled so, and a unit that is spelled so is read.
use Rattle.std.proofs.Common.{◌≡◌, ◌≢◌, ℕ, ◌+◌, ◌-◌, ◌/◌, ◌%◌, ◌^◌, ◌<◌, ◌≤◌, Bool, false, cond, leb, ltb, eqb, List, [], ◌∷◌, ◌++◌, length, Option, Some, None, refl, sym, ap, subst, ◌∙◌, append_assoc, arith, inl, inr, ◌⊎◌, ◌&&◌, ◌||◌}
use Rattle.std.proofs.lemmas.Bool.{cases_lt, cases_eq, cases_Bool, ltb-true, leb-true, le-ltb, lt-ltb, and_parts, or_cases, eqb-true}
use Rattle.std.proofs.lemmas.Bool.Decides.{nat_tests}
use Rattle.std.proofs.lemmas.List.{append-nil, length-append}
use Rattle.std.specs.List.{AllByRecursion}
use Rattle.dj_cursor.proofs.Options.{chose_some, went_on}
use Rattle.dj_names.specs.trusted.ModifiedUtf8.{unit_text, units_text, SpellsUnits, IsModifiedUtf8}
use Rattle.dj_names.specs.ModifiedUtf8.{BeginsNoUnit, BreaksAt}
use Rattle.dj_names.specs.trusted.UnitReading.{two_unit_of, three_unit_of, two_read, three_read, long_read, unit_read}

one_text : (u : ℕ) → 1 ≤ u → u < 128 → unit_text u ≡ u ∷ []
one_text u low high = grind (arith, nat_tests)

two_text : (u : ℕ) → u ≤ 2047 → (u ≡ 0) ⊎ (128 ≤ u) → unit_text u ≡ (192 + u / 64) ∷ (128 + u % 64) ∷ []
two_text u high wide = grind (arith, nat_tests)

three_text : (u : ℕ) → 2048 ≤ u → unit_text u ≡ (224 + u / 4096) ∷ (128 + u / 64 % 64) ∷ (128 + u % 64) ∷ []
three_text u wide = grind (arith, nat_tests)

-- ---- what is read is spelled so

abbrev pub Spelled : List ℕ → ℕ × List ℕ → Type 0
Spelled bytes x = (bytes ≡ unit_text x.0 ++ x.1) × (x.0 < 2 ^ 16)

two_takes : (a b : ℕ) (more : List ℕ) (x : ℕ × List ℕ) → 192 ≤ a → a < 224 → 128 ≤ b → b < 192 → two_read a b more ≡ Some x → Spelled (a ∷ b ∷ more) x
unfolding two_read
two_takes a b more x a_low a_high b_low b_high e =
    let g = chose_some (eqb (two_unit_of a b) 0 || leb 128 (two_unit_of a b)) (two_unit_of a b, more) x e in
    let u = two_unit_of a b in
    let wide : (u ≡ 0) ⊎ (128 ≤ u) = elim (or_cases (eqb u 0) (leb 128 u) g.0) [ inl h ↦ inl (eqb-true u 0 h) | inr h ↦ inr (leb-true 128 u h) ] in
    let high : u ≤ 2047 = omega arith in
    let a-is : 192 + u / 64 ≡ a = omega arith in
    let b-is : 128 + u % 64 ≡ b = omega arith in
    let text : unit_text u ≡ a ∷ b ∷ [] = two_text u high wide ∙ cc in
    subst (λ (y : ℕ × List ℕ). Spelled (a ∷ b ∷ more) y) g.1 (ap (λ (t : List ℕ). t ++ more) (sym text), omega arith)

three_takes : (a b : ℕ) (bytes : List ℕ) (x : ℕ × List ℕ) → 224 ≤ a → 128 ≤ b → b < 192 → three_read a b bytes ≡ Some x → Spelled (a ∷ b ∷ bytes) x
unfolding three_read
three_takes a b [] x a_low b_low b_high e = absurd cc
three_takes a b (c ∷ more) x a_low b_low b_high e =
    let u = three_unit_of a b c in
    let g = chose_some ((leb 128 c && ltb c 192) && ltb a 240 && leb 2048 u) (u, more) x e in
    let p = and_parts ((leb 128 c && ltb c 192) && ltb a 240) (leb 2048 u) g.0 in
    let q = and_parts (leb 128 c && ltb c 192) (ltb a 240) p.0 in
    let r = and_parts (leb 128 c) (ltb c 192) q.0 in
    let wide : 2048 ≤ u = leb-true 2048 u p.1 in
    let a_high : a < 240 = ltb-true a 240 q.1 in
    let c_low : 128 ≤ c = leb-true 128 c r.0 in
    let c_high : c < 192 = ltb-true c 192 r.1 in
    let a-is : 224 + u / 4096 ≡ a = omega arith in
    let b-is : 128 + u / 64 % 64 ≡ b = omega arith in
    let c-is : 128 + u % 64 ≡ c = omega arith in
    let text : unit_text u ≡ a ∷ b ∷ c ∷ [] = three_text u wide ∙ cc in
    subst (λ (y : ℕ × List ℕ). Spelled (a ∷ b ∷ c ∷ more) y) g.1 (ap (λ (t : List ℕ). t ++ more) (sym text), omega arith)

long_takes : (a : ℕ) (bytes : List ℕ) (x : ℕ × List ℕ) → long_read a bytes ≡ Some x → Spelled (a ∷ bytes) x
unfolding long_read
long_takes a [] x e = absurd cc
long_takes a (b ∷ more) x e =
    let g = went_on ((leb 128 b && ltb b 192) && leb 192 a) (cond (ltb a 224) (two_read a b more) (three_read a b more)) x e in
    let p = and_parts (leb 128 b && ltb b 192) (leb 192 a) g.0 in
    let q = and_parts (leb 128 b) (ltb b 192) p.0 in
    let a_low : 192 ≤ a = leb-true 192 a p.1 in
    let b_low : 128 ≤ b = leb-true 128 b q.0 in
    let b_high : b < 192 = ltb-true b 192 q.1 in
    elim (cases_lt a 224) [
      | inl lt ↦
          let here : two_read a b more ≡ Some x = sym (ap (λ (t : Bool). cond t (two_read a b more) (three_read a b more)) (lt-ltb a 224 lt)) ∙ g.1 in
          two_takes a b more x a_low lt b_low b_high here
      | inr le ↦
          let here : three_read a b more ≡ Some x = sym (ap (λ (t : Bool). cond t (two_read a b more) (three_read a b more)) (le-ltb a 224 le)) ∙ g.1 in
          three_takes a b more x le b_low b_high here
    ]

pub unit_takes : (bytes : List ℕ) (x : ℕ × List ℕ) → unit_read bytes ≡ Some x → Spelled bytes x
unfolding unit_read
unit_takes [] x e = absurd cc
unit_takes (a ∷ more) x e =
    elim (cases_Bool (leb 1 a && ltb a 128)) [
      | inl short ↦
          let p = and_parts (leb 1 a) (ltb a 128) short in
          let low : 1 ≤ a = leb-true 1 a p.0 in
          let high : a < 128 = ltb-true a 128 p.1 in
          let here : Some (a, more) ≡ Some x = sym (ap (λ (t : Bool). cond t (Some (a, more)) (long_read a more)) short) ∙ e in
          let made : ℕ × List ℕ = (a, more) in
          let same : made ≡ x = cc in
          subst (λ (y : ℕ × List ℕ). Spelled (a ∷ more) y) same (ap (λ (t : List ℕ). t ++ more) (sym (one_text a low high)), omega arith)
      | inr long ↦
          let here : long_read a more ≡ Some x = sym (ap (λ (t : Bool). cond t (Some (a, more)) (long_read a more)) long) ∙ e in
          long_takes a more x here
    ]

-- ---- what is spelled so is read

two_again : (u : ℕ) (rest : List ℕ) → u ≤ 2047 → (u ≡ 0) ⊎ (128 ≤ u) → unit_read ((192 + u / 64) ∷ (128 + u % 64) ∷ rest) ≡ Some (u, rest)
unfolding unit_read long_read two_read
two_again u rest high wide =
    let a : ℕ = 192 + u / 64 in
    let b : ℕ = 128 + u % 64 in
    let u-is : two_unit_of (192 + u / 64) (128 + u % 64) ≡ u = omega arith in
    grind (arith, nat_tests)

three_again : (u : ℕ) (rest : List ℕ) → 2048 ≤ u → u < 2 ^ 16 → unit_read ((224 + u / 4096) ∷ (128 + u / 64 % 64) ∷ (128 + u % 64) ∷ rest) ≡ Some (u, rest)
unfolding unit_read long_read three_read
three_again u rest wide fits =
    let u-is : three_unit_of (224 + u / 4096) (128 + u / 64 % 64) (128 + u % 64) ≡ u = omega arith in
    grind (arith, nat_tests)

one_again : (u : ℕ) (rest : List ℕ) → 1 ≤ u → u < 128 → unit_read (u ∷ rest) ≡ Some (u, rest)
unfolding unit_read
one_again u rest low high = grind (arith, nat_tests)

pub unit_again : (u : ℕ) (rest : List ℕ) → u < 2 ^ 16 → unit_read (unit_text u ++ rest) ≡ Some (u, rest)
unit_again u rest fits =
    elim (cases_lt u 2048) [
      | inr wide ↦ ap (λ (t : List ℕ). unit_read (t ++ rest)) (three_text u wide) ∙ three_again u rest wide fits
      | inl narrow ↦ elim (cases_eq u 0) [
        | inl null ↦ ap (λ (t : List ℕ). unit_read (t ++ rest)) (two_text u (omega arith) (inl null)) ∙ two_again u rest (omega arith) (inl null)
        | inr some ↦ elim (cases_lt u 128) [
          | inl short ↦ ap (λ (t : List ℕ). unit_read (t ++ rest)) (one_text u (omega arith) short) ∙ one_again u rest (omega arith) short
          | inr long ↦ ap (λ (t : List ℕ). unit_read (t ++ rest)) (two_text u (omega arith) (inr long)) ∙ two_again u rest (omega arith) (inr long)
        ]
      ]
    ]

-- ---- no spelling begins another

pub one_prefix : (u v : ℕ) (x y : List ℕ) → u < 2 ^ 16 → v < 2 ^ 16 → unit_text u ++ x ≡ unit_text v ++ y → (u ≡ v) × (x ≡ y)
one_prefix u v x y u_fits v_fits e =
    let r = unit_again u x u_fits in
    let s = unit_again v y v_fits in
    let t = ap unit_read e in
    let left : ℕ × List ℕ = (u, x) in
    let right : ℕ × List ℕ = (v, y) in
    let both : Some left ≡ Some right = sym r ∙ t ∙ s in
    let same : left ≡ right = cc in
    (ap (λ (p : ℕ × List ℕ). p.0) same, ap (λ (p : ℕ × List ℕ). p.1) same)

abbrev absent : Option (ℕ × List ℕ)
absent = None

pub unit_some : (u : ℕ) (x : List ℕ) → u < 2 ^ 16 → unit_text u ++ x ≡ [] → ⊥
unfolding unit_read
unit_some u x fits e = let r = unit_again u x fits in let t = ap unit_read e in let bad : absent ≡ Some (u, x) = sym t ∙ r in absurd cc

pub begins_none : (bytes : List ℕ) → unit_read bytes ≡ None → BeginsNoUnit bytes
begins_none bytes e u more fits is =
    let r = unit_again u more fits in
    let t = ap unit_read is in
    let bad : absent ≡ Some (u, more) = sym e ∙ t ∙ r in
    absurd cc

pub one_list : (units others : List ℕ) → AllByRecursion (λ u. u < 2 ^ 16) units → AllByRecursion (λ u. u < 2 ^ 16) others → units_text units ≡ units_text others → units ≡ others
one_list [] [] fits fit e = refl
one_list [] (v ∷ vs) fits fit e = absurd (unit_some v (units_text vs) fit.0 (sym e))
one_list (u ∷ us) [] fits fit e = absurd (unit_some u (units_text us) fits.0 e)
one_list (u ∷ us) (v ∷ vs) fits fit e =
    let p = one_prefix u v (units_text us) (units_text vs) fits.0 fit.0 e in
    let q = one_list us vs fits.1 fit.1 p.1 in
    let h = p.0 in
    cc

-- a text spells one list of units only
pub spelled_once : (text units others : List ℕ) → SpellsUnits text units → SpellsUnits text others → units ≡ others
spelled_once text units others s o = one_list units others s.units_fit o.units_fit (sym s.text_is ∙ o.text_is)

-- ---- the loops' steps

pub nothing_spelled : IsModifiedUtf8 []
nothing_spelled = ([], record { text_is = refl; units_fit = tt })

pub unit_then : (bytes : List ℕ) (u : ℕ) (rest : List ℕ) → unit_read bytes ≡ Some (u, rest) → IsModifiedUtf8 rest → IsModifiedUtf8 bytes
unit_then bytes u rest e m =
    let t = unit_takes bytes (u, rest) e in
    (u ∷ m.0, record { text_is = t.0 ∙ ap (λ (x : List ℕ). unit_text u ++ x) m.1.text_is; units_fit = (t.1, m.1.units_fit) })

modified_rest : (bytes units : List ℕ) (u : ℕ) (rest : List ℕ) → unit_read bytes ≡ Some (u, rest) → SpellsUnits bytes units → IsModifiedUtf8 rest
modified_rest bytes [] u rest e s =
    let t = unit_takes bytes (u, rest) e in
    absurd (unit_some u rest t.1 (sym t.0 ∙ s.text_is))
modified_rest bytes (v ∷ vs) u rest e s =
    let t = unit_takes bytes (u, rest) e in
    let p = one_prefix u v rest (units_text vs) t.1 s.units_fit.0 (sym t.0 ∙ s.text_is) in
    (vs, record { text_is = p.1; units_fit = s.units_fit.1 })

pub unit_before : (bytes : List ℕ) (u : ℕ) (rest : List ℕ) → unit_read bytes ≡ Some (u, rest) → IsModifiedUtf8 bytes → IsModifiedUtf8 rest
unit_before bytes u rest e m = modified_rest bytes m.0 u rest e m.1

unspelled : (bytes units : List ℕ) → bytes ≢ [] → BeginsNoUnit bytes → SpellsUnits bytes units → ⊥
unspelled bytes [] some none s = some s.text_is
unspelled bytes (u ∷ us) some none s = none u (units_text us) s.units_fit.0 s.text_is

pub not_modified : (bytes : List ℕ) → bytes ≢ [] → unit_read bytes ≡ None → IsModifiedUtf8 bytes → ⊥
not_modified bytes some none m = unspelled bytes m.0 some (begins_none bytes none) m.1

-- the units so far spell the text up to the rest
pub record SpellsUpTo (text units rest : List ℕ) : Type 0 where
  pub parts : text ≡ units_text units ++ rest
  pub fit : AllByRecursion (λ u. u < 2 ^ 16) units

AllByRecursion-push : (units : List ℕ) (u : ℕ) → AllByRecursion (λ v. v < 2 ^ 16) units → u < 2 ^ 16 → AllByRecursion (λ v. v < 2 ^ 16) (units ++ u ∷ [])
AllByRecursion-push [] u fit lt = (lt, tt)
AllByRecursion-push (v ∷ vs) u fit lt = (fit.0, AllByRecursion-push vs u fit.1 lt)

units_text-push : (units : List ℕ) (u : ℕ) (after : List ℕ) → units_text (units ++ u ∷ []) ++ after ≡ units_text units ++ (unit_text u ++ after)
units_text-push [] u after = ap (λ (x : List ℕ). x ++ after) (append-nil (unit_text u))
units_text-push (v ∷ vs) u after =
    append_assoc (unit_text v) (units_text (vs ++ u ∷ [])) after ∙ ap (λ (x : List ℕ). unit_text v ++ x) (units_text-push vs u after) ∙ sym (append_assoc (unit_text v) (units_text vs) (unit_text u ++ after))

pub one_more : (text units rest : List ℕ) (u : ℕ) (after : List ℕ) → unit_read rest ≡ Some (u, after) → SpellsUpTo text units rest → SpellsUpTo text (units ++ u ∷ []) after
one_more text units rest u after e s =
    let t = unit_takes rest (u, after) e in
    record {
      parts = s.parts ∙ ap (λ (x : List ℕ). units_text units ++ x) t.0 ∙ sym (units_text-push units u after);
      fit = AllByRecursion-push units u s.fit t.1;
    }

pub all_spelled : (text units rest : List ℕ) → rest ≡ [] → SpellsUpTo text units rest → SpellsUnits text units
all_spelled text units rest nothing s =
    record { text_is = s.parts ∙ ap (λ (x : List ℕ). units_text units ++ x) nothing ∙ append-nil (units_text units); units_fit = s.fit }

pub breaks_here : (text units rest : List ℕ) (place : ℕ) → place ≡ length text - length rest → rest ≢ [] → unit_read rest ≡ None → SpellsUpTo text units rest → BreaksAt text place
breaks_here text units rest place is some none s =
    record {
      prefix = units_text units;
      units = units;
      rest = rest;
      parts = s.parts;
      prefix_is = record { text_is = refl; units_fit = s.fit };
      place_is = omega (arith, length-append (units_text units) rest, ap length s.parts);
      left = some;
      broken = begins_none rest none;
    }

pub some_left : (bytes : List ℕ) → eqb (length bytes) 0 ≡ false → bytes ≢ []
some_left bytes e nothing = let zero_long : length bytes ≡ 0 = ap length nothing in absurd (grind (arith, nat_tests))
