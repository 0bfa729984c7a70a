-- What clap does after its walk over the words adds nothing here: no argument has a default, none is required and there is no subcommand.
use Rattle.std.proofs.Common.{◌≡◌, ◌∙◌, ◌||◌, Bool, true, false, List, [], ◌∷◌, Option, Some, None, refl, ap, cond}
use Rattle.std.specs.List.{fold}
use Rattle.clap.specs.Words.{Row, Rule, Text, Kinds, Shape, built, fault_of, matches_of}
use Rattle.clap.specs.Walk.{Held, has_row, is_empty, with_default, default_rows, reading_by, walk, walk_from, nothing_held, settled, finished}
use Rattle.clap.specs.Kinds.{or_else}
use Rattle.clap.specs.Faults.{defaults_fault, default_fault, given_default_fault, entered_fault, check_fault, walk_fault, settle_fault}
use Rattle.dj_command_line.specs.WordsApp.{app}
use Rattle.dj_command_line.proofs.Rules.{rules}

abbrev pub top : Shape
top = (built app).top

either : (b : Bool) (xs ys : List Row) → xs ≡ ys → cond b ys xs ≡ ys
either true xs ys e = refl
either false xs ys e = e

no_default : (rows : List Row) (a : Rule) → a.defaults ≡ [] → with_default rows a ≡ rows
no_default rows a none =
    either (has_row a.id rows) (default_rows a.id (reading_by a) a.defaults rows) rows (ap (λ (d : List Text). default_rows a.id (reading_by a) d rows) none)

-- no argument has a default
abbrev pub HasNoDefaults : List Rule → Type 0
HasNoDefaults [] = Unit {0}
HasNoDefaults (a ∷ rest) = (a.defaults ≡ []) × HasNoDefaults rest

pub without_defaults : HasNoDefaults rules
without_defaults = (refl, (refl, (refl, (refl, (refl, (refl, (refl, tt)))))))

defaults_kept : (c : List Rule) (rows : List Row) → HasNoDefaults c → fold with_default rows c ≡ rows
defaults_kept [] rows none = refl
defaults_kept (a ∷ rest) rows none =
    ap (λ (r : List Row). fold with_default r rest) (no_default rows a none.0) ∙ defaults_kept rest rows none.1

no_check : (rows : List Row) (entered : Bool) → check_fault top rows entered ≡ []
no_check rows true = refl
no_check rows false = refl

nothing_below : (stop : Option (Text × List Text)) → entered_fault (built app) stop ≡ []
nothing_below None = refl
nothing_below (Some p) = refl

quiet : (b : Bool) (xs : Kinds) → cond (b || true) [] xs ≡ []
quiet true xs = refl
quiet false xs = refl

no_default_fault : (rows : List Row) (a : Rule) → a.defaults ≡ [] → default_fault rows a ≡ []
no_default_fault rows a none =
    ap (λ (d : List Text). cond (has_row a.id rows || is_empty d) [] (given_default_fault a d)) none ∙ quiet (has_row a.id rows) (given_default_fault a [])

defaults_quiet : (c : List Rule) (rows : List Row) → HasNoDefaults c → defaults_fault rows c ≡ []
unfolding defaults_fault
defaults_quiet [] rows none = refl
defaults_quiet (a ∷ rest) rows none =
    ap (λ (k : Kinds). or_else k (defaults_fault (with_default rows a) rest)) (no_default_fault rows a none.0) ∙ defaults_quiet rest (with_default rows a) none.1

or_nothing : (k : Kinds) → or_else k [] ≡ k
or_nothing [] = refl
or_nothing (k ∷ ks) = refl

only_walk : (w b s d c : Kinds) → b ≡ [] → d ≡ [] → c ≡ [] → or_else w (or_else b (or_else s (or_else d c))) ≡ or_else w s
only_walk w b s d c below defaults checks =
    (λ i. or_else w (or_else (below i) (or_else s (or_else (defaults i) (checks i))))) ∙ ap (or_else w) (or_nothing s)

-- where clap's walk ends
abbrev pub end_of : List Text → Held
end_of words = (walk rules [] nothing_held words).held

-- a line is refused in the walk, or by what its last word leaves open
pub fault_is : (words : List Text) → fault_of app words ≡ or_else (walk_fault top [] (walk_from nothing_held) words) (settle_fault rules false (end_of words))
fault_is words = only_walk _ _ _ _ _ (nothing_below _) (defaults_quiet rules (settled rules (end_of words)).rows without_defaults) (no_check (finished rules (end_of words)) _)

-- and else its matches are what the walk found
pub matches_are : (words : List Text) → matches_of app words ≡ (settled rules (end_of words)).rows
matches_are words = defaults_kept rules (settled rules (end_of words)).rows without_defaults
