-- A class name that is read has its parts, and what has its parts is read.
use Rattle.std.proofs.Common.{◌≡◌, ◌≢◌, ℕ, Bool, true, false, cond, eqb, ◌&&◌, List, [], ◌∷◌, ◌++◌, refl, sym, ap, ◌∙◌, inl, inr, ◌||◌}
use Rattle.std.proofs.lemmas.Bool.{cases_Bool, eqb-true, eqb-false, ne_eqb, or_parts, or_from}
use Rattle.std.proofs.lemmas.List.{append-nil}
use Rattle.std.specs.List.{AllByRecursion, join_with_byte}
use Rattle.dj_names.specs.trusted.Names.{IsNameByte, IsUnqualifiedName, IsClassName}
use Rattle.dj_names.specs.trusted.NameReading.{is_stop, is_refused, reads_class_name}

-- parts of which the first is unqualified where a part begins
record HasParts (fresh : Bool) (text : List ℕ) : Type 0 where
  pub first : List ℕ
  pub others : List (List ℕ)
  pub some : fresh ≡ true → first ≢ []
  pub bytes : AllByRecursion IsNameByte first
  pub names : AllByRecursion IsUnqualifiedName others
  pub joined : text ≡ join_with_byte 47 (first ∷ others)

join-push : (b : ℕ) (first : List ℕ) (others : List (List ℕ)) → join_with_byte 47 ((b ∷ first) ∷ others) ≡ b ∷ join_with_byte 47 (first ∷ others)
join-push b first [] = refl
join-push b first (p ∷ ps) = refl

refused_or : (b : Bool) (x : Bool) → cond b false x ≡ true → (b ≡ false) × (x ≡ true)
refused_or true x e = absurd cc
refused_or false x e = (refl, e)

pub is_name_byte : (b : ℕ) → eqb b 47 ≡ false → is_stop b ≡ false → IsNameByte b
is_name_byte b slash others =
    let p = or_parts (eqb b 46 || eqb b 59) (eqb b 91) others in
    let q = or_parts (eqb b 46) (eqb b 59) p.0 in
    record { not_dot = eqb-false b 46 q.0; not_semicolon = eqb-false b 59 q.1; not_bracket = eqb-false b 91 p.1; not_slash = eqb-false b 47 slash }

pub is_no_stop : (b : ℕ) → IsNameByte b → is_stop b ≡ false
is_no_stop b n = or_from (eqb b 46 || eqb b 59) (eqb b 91) (or_from (eqb b 46) (eqb b 59) (ne_eqb b 46 n.not_dot) (ne_eqb b 59 n.not_semicolon)) (ne_eqb b 91 n.not_bracket)

not_fresh : (fresh slash : Bool) → (fresh && slash) ≡ false → slash ≡ true → fresh ≡ true → ⊥
not_fresh true true e s h = absurd cc
not_fresh true false e s h = absurd cc
not_fresh false slash e s h = absurd cc

has_parts : (text : List ℕ) (fresh : Bool) → reads_class_name fresh text ≡ true → HasParts fresh text
unfolding reads_class_name
has_parts [] true e = absurd cc
has_parts [] false e = record { first = []; others = []; some = λ h. absurd cc; bytes = tt; names = tt; joined = refl }
has_parts (b ∷ more) fresh e =
    let g = refused_or (is_refused fresh b) (reads_class_name (eqb b 47) more) e in
    let o = or_parts (is_stop b) (fresh && eqb b 47) g.0 in
    elim (cases_Bool (eqb b 47)) [
      | inl slash ↦
          let here : reads_class_name true more ≡ true = sym (ap (λ (t : Bool). reads_class_name t more) slash) ∙ g.1 in
          let r = has_parts more true here in
          record {
            first = [];
            others = r.first ∷ r.others;
            some = λ h. absurd (not_fresh fresh (eqb b 47) o.1 slash h);
            bytes = tt;
            names = (record { some = r.some refl; bytes = r.bytes }, r.names);
            joined = ap (λ (c : ℕ). c ∷ more) (eqb-true b 47 slash) ∙ ap (λ (t : List ℕ). 47 ∷ t) r.joined;
          }
      | inr other ↦
          let here : reads_class_name false more ≡ true = sym (ap (λ (t : Bool). reads_class_name t more) other) ∙ g.1 in
          let r = has_parts more false here in
          record {
            first = b ∷ r.first;
            others = r.others;
            some = λ h k. absurd cc;
            bytes = (is_name_byte b other o.0, r.bytes);
            names = r.names;
            joined = ap (λ (t : List ℕ). b ∷ t) r.joined ∙ sym (join-push b r.first r.others);
          }
    ]

not_refused : (fresh : Bool) (b : ℕ) → IsNameByte b → is_refused fresh b ≡ false
not_refused true b n = or_from (is_stop b) (eqb b 47) (is_no_stop b n) (ne_eqb b 47 n.not_slash)
not_refused false b n = or_from (is_stop b) false (is_no_stop b n) refl

reads_first : (p rest : List ℕ) (fresh : Bool) → AllByRecursion IsNameByte p → (fresh ≡ true → p ≢ []) → reads_class_name fresh (p ++ rest) ≡ reads_class_name false rest
unfolding reads_class_name
reads_first [] rest true fits some = absurd (some refl refl)
reads_first [] rest false fits some = refl
reads_first (b ∷ p) rest fresh fits some =
    let first : cond (is_refused fresh b) false (reads_class_name (eqb b 47) (p ++ rest)) ≡ reads_class_name (eqb b 47) (p ++ rest) = ap (λ (t : Bool). cond t false (reads_class_name (eqb b 47) (p ++ rest))) (not_refused fresh b fits.0) in
    let second : reads_class_name (eqb b 47) (p ++ rest) ≡ reads_class_name false (p ++ rest) = ap (λ (t : Bool). reads_class_name t (p ++ rest)) (ne_eqb b 47 fits.0.not_slash) in
    first ∙ second ∙ reads_first p rest false fits.1 (λ h. absurd cc)

reads_parts : (parts : List (List ℕ)) → parts ≢ [] → AllByRecursion IsUnqualifiedName parts → reads_class_name true (join_with_byte 47 parts) ≡ true
unfolding reads_class_name
reads_parts [] some names = absurd (some refl)
reads_parts (p ∷ []) some names =
    ap (reads_class_name true) (sym (append-nil p)) ∙ reads_first p [] true names.0.bytes (λ _. names.0.some)
reads_parts (p ∷ q ∷ ps) some names =
    reads_first p (47 ∷ join_with_byte 47 (q ∷ ps)) true names.0.bytes (λ _. names.0.some) ∙ reads_parts (q ∷ ps) (λ e. absurd cc) names.1

pub class_name_read : (text : List ℕ) → reads_class_name true text ≡ true → IsClassName text
class_name_read text e =
    let r = has_parts text true e in
    record {
      parts = r.first ∷ r.others;
      some = λ k. absurd cc;
      names = (record { some = r.some refl; bytes = r.bytes }, r.names);
      joined = r.joined;
    }

pub reads_class : (text : List ℕ) → IsClassName text → reads_class_name true text ≡ true
reads_class text n = ap (reads_class_name true) n.joined ∙ reads_parts n.parts n.some n.names
