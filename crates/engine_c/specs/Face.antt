-- What the C face adds to the calls: an order's numbers one by one, figures and floats that go to a lent buffer, the gauge as a number and a float, and the
-- cover test of an asset.
-- Assumes nothing.
use Rattle.std.specs.Prelude.{cond, ◌&&◌, List, ℕ, eqb, ℤ, nat_abs, length, Float}
use Rattle.std.specs.Borrow.{MutBor}
use denote.Triple.Both.{Both}
use Rattle.whole.specs.Refusals.{wrong_length}
use Rattle.rates.specs.Lent.{Tables}
use Rattle.rates.specs.InForce.{lookup, sound_row, cover_test}
use Rattle.book.specs.Choices.{asset_right}
use Rattle.book.specs.declared.terms.Terms.{Terms}
use Rattle.figures.specs.Limit.{five}
use Rattle.engine.specs.State.{State}
use Rattle.engine.specs.Report.{report_of}
use Rattle.app_feed.specs.Gauge.{gauge_number, gauge_shown}
use Rattle.app_feed.specs.Feed.{LentBits, sent_of}
use Rattle.app_feed.specs.Received.{received_of}

abbrev pub terms : ℤ → ℤ → ℤ → ℤ → ℤ → Terms
terms asset date side quantity money = record { asset = asset; date = date; side = side; quantity = quantity; money = money }

-- ---- a buffer that takes five figures: one of another length is a wrong length, and stays as it was
pub record Filled (A : Type 0) : Type 0 where
  pub code : ℕ
  pub figures : List A

-- as a contract names what was answered and written
abbrev pub filled : {A : Type 0} → ℕ → Both (MutBor (List A)) (MutBor (List A)) → Filled A
filled code figures = record { code = code; figures = figures.exit.now }

unfoldable pub fills : {A : Type 0} → ℕ → List A → List A → Filled A
fills code five figures = record { code = cond (eqb (length figures) 5) code wrong_length; figures = cond (eqb (length figures) 5) five figures }

unfoldable pub filled_report : Tables → ℕ → State → List ℤ → Filled ℤ
filled_report tables i s = fills (report_of tables i s).code (five (report_of tables i s).figures)

-- document 02, #102: five numbers read back
unfoldable pub filled_floats : List ℕ → List Float → Filled Float
filled_floats bits = fills (received_of bits).code (five (received_of bits).figures)

-- 1 where the asset's row in force keeps its rules and passes the cover test, else 0
unfoldable pub covered : List ℤ → List ℤ → ℤ → ℕ
covered clearing own asset =
    let row = lookup clearing own (nat_abs asset) in
    cond (asset_right asset && (sound_row row && cover_test row)) 1 0

-- ---- document 02, #102: what goes to the app's screen
pub record Screen : Type 0 where
  pub code : ℕ
  pub bits : List ℕ
  pub gauge : ℕ
  pub shown : Float

-- as a contract names it
abbrev pub screen : ℕ → LentBits → Both (MutBor ℕ) (MutBor ℕ) → Both (MutBor Float) (MutBor Float) → Screen
screen code bits gauge shown = record { code = code; bits = bits.exit.now; gauge = gauge.exit.now; shown = shown.exit.now }

unfoldable pub screen_of : Tables → ℕ → State → List ℕ → Screen
screen_of tables i s bits =
    let sent = sent_of tables i s bits in
    record { code = sent.fed.code; bits = sent.bits; gauge = gauge_number sent.fed.gauge; shown = gauge_shown sent.fed.gauge }
