-- The arguments of the command line, as clap finds them.
use Rattle.std.proofs.Common.{◌≡◌, ◌⊎◌, ◌∙◌, true≢false, ℕ, Bool, true, false, List, Some, None, refl, inl, inr, subst, codes, sym}
use Rattle.std.specs.Str.{bytes_eq}
use Rattle.std.proofs.lemmas.Slice.Eq.{bytes_eq-Decides}
use Rattle.clap.specs.Words.{Rule, Text, built, new_rule}
use Rattle.clap.specs.Walk.{arg_by_id, arg_by_index, arg_by_long, arg_by_short}
use Rattle.clap.specs.Simple.{filled, with_index}
use Rattle.clap.specs.declared.builder.action.ArgAction.TheVariants.{Append}
use Rattle.dj_command_line.specs.WordsApp.{app, option_rule}

abbrev pub rules : List Rule
rules = (built app).top.rules

abbrev pub command_rule : Rule
command_rule = with_index 1 (filled (new_rule (codes "command")))

abbrev pub words_rule : Rule
words_rule = with_index 2 (filled (record (new_rule (codes "words")) { action = Some Append }))

abbrev pub long_rule : Text → Rule
long_rule name = with_index 3 (filled (option_rule name))

first_is : arg_by_index rules 1 ≡ Some command_rule
first_is = refl

second_is : arg_by_index rules 2 ≡ Some words_rule
second_is = refl

pub no_short : (x : ℕ) → arg_by_short rules x ≡ None
no_short x = refl

-- the name of an option
pub data Known : Text → Type 0 where
  is_alloc : Known (codes "alloc")
  is_invoke : Known (codes "invoke")
  is_jump : Known (codes "jump")
  is_throw : Known (codes "throw")
  is_steps : Known (codes "steps")

pub known_rule : (name : Text) → Known name → arg_by_id rules name ≡ Some (long_rule name)
known_rule _ is_alloc = refl
known_rule _ is_invoke = refl
known_rule _ is_jump = refl
known_rule _ is_throw = refl
known_rule _ is_steps = refl

-- the name of no option
abbrev pub Unknown : Text → Type 0
Unknown name = (bytes_eq name (codes "alloc") ≡ false) × (bytes_eq name (codes "invoke") ≡ false) × (bytes_eq name (codes "jump") ≡ false)
    × (bytes_eq name (codes "throw") ≡ false) × (bytes_eq name (codes "steps") ≡ false)

pub data Named : Text → Type 0 where
  an_option : (name : Text) → Known name → arg_by_long rules name ≡ Some (long_rule name) → Named name
  no_option : (name : Text) → Unknown name → arg_by_long rules name ≡ None → Named name

flipped : (a b : Text) → bytes_eq a b ≡ false → bytes_eq b a ≡ false
flipped a b e = go (bytes_eq b a) refl where
  go : (t : Bool) → bytes_eq b a ≡ t → bytes_eq b a ≡ false
  go true same = absurd (true≢false (sym ((bytes_eq-Decides a b).1 (sym ((bytes_eq-Decides b a).0 same))) ∙ e))
  go false other = other

pub same_or : (a b : Text) → (a ≡ b) ⊎ (bytes_eq a b ≡ false)
same_or a b = go (bytes_eq a b) refl where
  go : (t : Bool) → bytes_eq a b ≡ t → (a ≡ b) ⊎ (bytes_eq a b ≡ false)
  go true e = inl ((bytes_eq-Decides a b).0 e)
  go false e = inr e

pub named : (name : Text) → Named name
named name = elim (same_or (codes "alloc") name) [
  | inl e ↦ subst Named e (an_option (codes "alloc") is_alloc refl)
  | inr a ↦ elim (same_or (codes "invoke") name) [
    | inl e ↦ subst Named e (an_option (codes "invoke") is_invoke refl)
    | inr b ↦ elim (same_or (codes "jump") name) [
      | inl e ↦ subst Named e (an_option (codes "jump") is_jump refl)
      | inr c ↦ elim (same_or (codes "throw") name) [
        | inl e ↦ subst Named e (an_option (codes "throw") is_throw refl)
        | inr d ↦ elim (same_or (codes "steps") name) [
          | inl e ↦ subst Named e (an_option (codes "steps") is_steps refl)
          | inr f ↦ no_option name (flipped (codes "alloc") name a, flipped (codes "invoke") name b, flipped (codes "jump") name c, flipped (codes "throw") name d, flipped (codes "steps") name f) (rw (a, b, c, d, f) refl)
        ]
      ]
    ]
  ]
]
