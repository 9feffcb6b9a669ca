-- `settlement::Account::gathered_members` meets its contract. The loop's invariant: count and places are those of the accounts before j that are on the code.
-- Assumes nothing.
use mathlib.Core.Path.{◌≡◌, sym, ap, ap₂, ◌∙◌}
use mathlib.Core.Bool.{Bool, cond}
use mathlib.Core.List.{[], ◌∷◌}
use Prim.Native.Nat.{◌<◌}
use native.Mathlib.Omega.{arith}
use Rattle.whole.proofs.Tests.{passed, failed}
use Rattle.book.specs.Members.{kind_at}
use Rattle.book.specs.declared.members.Members.{Members}
use Rattle.settlement.specs.Code.{on_code}
use Rattle.settlement.specs.Members.{joined, list_of}
use Rattle.settlement.proofs.Codes.{room_before}
use Rattle.settlement.proofs.Right.{own_in_range}
use Rattle.settlement.proofs.Listing.{list_count, list_turn}
use Rattle.settlement.proofs.Account.gathered_members.Invariants.{made}
use Rattle.settlement.proofs.Account.gathered_members.Goals as goal
use Rattle.settlement.proofs.Account.gathered_members.Goals.{Then-on_code, then-on_code, else-on_code}

pub alone-own-requires : goal.alone-own-requires
alone-own-requires c = own_in_range _ _ c.requires

pub loop-j-init : goal.loop-j-init
unfolding list_of
loop-j-init c =
    let kind = ap (λ (m : Members). m.kind) c.alone-own.ensures in
    λ t. record { kind = kind t; count = 0; at = 0 ∷ 0 ∷ 0 ∷ 0 ∷ [] }

-- before an account that is on the code the list is shorter than the code, so there is room
free : (c : Then-on_code) → c.loop-j.count < 4
free c =
    let l = c.loop-j in
    let on = on_code c.args.self.now.book.now c.args.self.now.i in
    let counted = ap (λ (m : Members). m.count) l.invariant ∙ list_count on (kind_at c.args.self.now.book.now c.args.self.now.i) l.j in
    omega (arith, counted, c.requires.few, room_before on l.j 16 (omega arith) (passed c.on_code.ensures c.if-on_code.true))

pub offset_bounds-at-count : goal.offset_bounds-at-count
offset_bounds-at-count c = omega (arith, free (goal.at.offset_bounds-at-count c).Then-on_code)

pub bounds-at-count : goal.bounds-at-count
bounds-at-count c = free (goal.at.bounds-at-count c).Then-on_code

pub overflow_add-count : goal.overflow_add-count
overflow_add-count c = omega (arith, free (goal.at.overflow_add-count c).Then-on_code)

pub loop-j-preserved : goal.loop-j-preserved
loop-j-preserved c =
    let l = c.loop-j in
    let m = made c.alone-own.result.kind l.count l.at in
    let turn = list_turn (on_code c.args.self.now.book.now c.args.self.now.i) (kind_at c.args.self.now.book.now c.args.self.now.i) l.j m _ l.invariant in
    elim c.if-on_code.branch [
      | then-on_code w ↦ turn (ap₂ (made c.alone-own.result.kind) w.count-is w.at-is ∙ ap (λ (t : Bool). cond t (joined m l.j) m) (sym (passed c.on_code.ensures w.if-on_code.true)))
      | else-on_code w ↦ turn (ap₂ (made c.alone-own.result.kind) w.count-is w.at-is ∙ ap (λ (t : Bool). cond t (joined m l.j) m) (sym (failed c.on_code.ensures w.if-on_code.false)))
    ]

pub returns : goal.returns
returns c =
    let l = c.loop-j in
    let a = c.args in
    let done : l.j ≡ 16 = omega arith in
    l.invariant ∙ ap (list_of (on_code a.self.now.book.now a.self.now.i) (kind_at a.self.now.book.now a.self.now.i)) done
