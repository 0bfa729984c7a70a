use Rattle.std.proofs.Common.{◌≡◌, ◌+◌, ◌∷◌, ◌++◌, ℕ, ◌≤◌, None, [], sym, ◌∙◌, subst, arith}
use Rattle.std.specs.Map.{keys_of}
use Rattle.dj_asm_pool.specs.Keys.{most_next, IsNumbered, IsPlaced}
use Rattle.indexmap.proofs.CallerLemmas.{insert_entry-new}
use Rattle.dj_asm_pool.proofs.KeyLaws.{same_key, there, full, still_numbered, put_last}
use Rattle.dj_asm_pool.proofs.places.Places.add.Goals as goal

pub returns-in-Some : goal.returns-in-Some
returns-in-Some c =
    subst (λ l. IsPlaced l c.args.key l c.within.result) c.self.view_is
    (there c.self.inside.indexes.entries c.self.inside.next c.args.key c.in-Some.index.now c.within.result c.self.invariant (sym c.in-Some.ensures.value) c.within.ensures)

pub returns-then-self-gt-MOST_NEXT : goal.returns-then-self-gt-MOST_NEXT
returns-then-self-gt-MOST_NEXT c =
    subst (λ l. IsPlaced l c.args.key l None) c.self.view_is
    (full c.self.inside.indexes.entries c.self.inside.next c.args.key c.self.invariant (sym c.in_default.ensures.value) c.if-self-gt-MOST_NEXT.true)

-- the entries with the new one
entries_are : (c : goal.After-within-2) → c.insert.new.self.entries ≡ c.self.inside.indexes.entries ++ (c.args.key, c.self.inside.next) ∷ []
entries_are c = c.in_ok-insert.ensures.entries ∙ insert_entry-new same_key c.self.inside.indexes c.args.key c.self.inside.next (sym c.in_default.ensures.value)

pub invariant_of-self-2 : goal.invariant_of-self-2
invariant_of-self-2 c =
    subst (λ l. IsNumbered l (c.self.inside.next + c.width.result)) (sym (entries_are c))
    (subst (λ (w : ℕ). IsNumbered (c.self.inside.indexes.entries ++ (c.args.key, c.self.inside.next) ∷ []) (c.self.inside.next + w)) (sym c.width.ensures.is)
    (still_numbered c.self.inside.indexes.entries c.self.inside.next c.args.key c.self.invariant))

pub returns : goal.returns
returns c =
    let past = c.if-self-gt-MOST_NEXT.false in
    let room : c.self.inside.next ≤ most_next = omega (arith, past) in
    subst (λ l. IsPlaced l c.args.key (keys_of c.insert.new.self.entries) c.within-2.result) c.self.view_is
    (subst (λ l. IsPlaced (keys_of c.self.inside.indexes.entries) c.args.key (keys_of l) c.within-2.result) (sym (entries_are c))
    (put_last c.self.inside.indexes.entries c.self.inside.next c.args.key c.self.invariant c.within-2.result (sym c.in_default.ensures.value) room c.within-2.ensures))
