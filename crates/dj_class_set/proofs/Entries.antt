-- The name of an entry, spelled unit by unit.
use Rattle.std.proofs.Common.{◌≡◌, ℕ, ◌+◌, ◌<◌, List, [], ◌∷◌, ◌++◌, length, take, map, get_or, sym, ap, ◌∙◌, append-nil}
use Rattle.std.proofs.lemmas.List.{take_more, map_push}
use Rattle.std.proofs.lemmas.Grind.{flat_map-append}
use Rattle.dj_names.specs.trusted.ModifiedUtf8.{unit_text, units_text}

-- one more unit
pub spelled_more : (slash : ℕ → ℕ) (units : List ℕ) (i u : ℕ) (text more : List ℕ) → i < length units → u ≡ slash (get_or units i 0)
    → text ≡ units_text (map slash (take i units)) → more ≡ text ++ unit_text u → more ≡ units_text (map slash (take (i + 1) units))
spelled_more slash units i u text more within is so_far step =
    step ∙ ap (λ (t : List ℕ). t ++ unit_text u) so_far ∙ ap (λ (v : ℕ). units_text (map slash (take i units)) ++ unit_text v) is
    ∙ sym (ap units_text (ap (map slash) (take_more units i 0 within) ∙ map_push slash (take i units) (get_or units i 0))
    ∙ flat_map-append unit_text (map slash (take i units)) (slash (get_or units i 0) ∷ [])
    ∙ ap (λ (t : List ℕ). units_text (map slash (take i units)) ++ t) (append-nil (unit_text (slash (get_or units i 0)))))
