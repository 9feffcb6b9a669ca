-- The figures of an account whose code is in range are those of the list of its code. Assumes nothing.
use mathlib.Core.Path.{◌≡◌, ap, ◌∙◌}
use Prim.Native.Nat.{ℕ}
use Rattle.whole.specs.Sums.{Σ<on}
use Rattle.rates.specs.Lent.{Tables}
use Rattle.book.specs.Block.{block_of}
use Rattle.book.specs.Members.{over_members, kind_at}
use Rattle.figures.specs.Joint.{figures_on, member_figures}
use Rattle.figures.proofs.SeveralBlocks.{figures_by}
use Rattle.settlement.specs.Code.{on_code}
use Rattle.settlement.specs.Members.{members_of, CodeRanges}
use Rattle.settlement.proofs.Listing.{list_lists, list_kind}
use Rattle.engine.specs.State.{State}
use Rattle.engine.specs.Refused.{figures_at}

pub listed_figures : (tables : Tables) (i : ℕ) (s : State) → CodeRanges s.book i
    → member_figures (members_of s.book i) s.book tables ≡ figures_at tables i s
listed_figures tables i s p =
    let on = on_code s.book i in
    let kind = kind_at s.book i in
    figures_by (over_members (members_of s.book i)) (Σ<on 16 on) (list_lists on kind 16 p.few).sums (members_of s.book i).kind (block_of s.book) tables
    ∙ ap (λ (k : ℕ). figures_on on k (block_of s.book) tables) (list_kind on kind 16)
