-- The instructions that run so far ask for no class.
use Rattle.std.proofs.Common.{◌≡◌, List, Some, refl}
use Rattle.dj_names.specs.declared.run.Value.{Value}
use Rattle.dj_straight.specs.trusted.Program.{Program}
use Rattle.dj_straight.specs.trusted.Instructions.{Instruction, Nop, Push, Load, Store, LoadElement, StoreElement, Move, Compute, Return, ArrayLength, NewArray, Other}
use Rattle.dj_straight.specs.trusted.Effects.{Terms, StraightPart, effect}
use Rattle.dj_straight.specs.trusted.Charges.{own_amounts}

pub same_effect : (a b : Program) (m n : Terms) (i : Instruction) (p : StraightPart) → m.limit ≡ n.limit → effect a m i p ≡ effect b n i p
unfolding effect
same_effect a b m n Nop p e = refl
same_effect a b m n (Push v) p e = refl
same_effect a b m n (Load kind slot) p e = refl
same_effect a b m n (Store kind slot) p e = refl
same_effect a b m n (LoadElement access) p e = refl
same_effect a b m n (StoreElement access) p e = refl
same_effect a b m n (Move operation) p e = refl
same_effect a b m n (Compute operation) p e = refl
same_effect a b m n (Return kind) p e = refl
same_effect a b m n ArrayLength p e = refl
same_effect a b m n (NewArray class element) p e = rw e refl
same_effect a b m n (Other op) p e = refl

pub same_amounts : (a b : Program) (i : Instruction) (operands : List Value) → own_amounts a (Some i) operands ≡ own_amounts b (Some i) operands
same_amounts a b Nop operands = refl
same_amounts a b (Push v) operands = refl
same_amounts a b (Load kind slot) operands = refl
same_amounts a b (Store kind slot) operands = refl
same_amounts a b (LoadElement access) operands = refl
same_amounts a b (StoreElement access) operands = refl
same_amounts a b (Move operation) operands = refl
same_amounts a b (Compute operation) operands = refl
same_amounts a b (Return kind) operands = refl
same_amounts a b ArrayLength operands = refl
same_amounts a b (NewArray class element) operands = refl
same_amounts a b (Other op) operands = refl
