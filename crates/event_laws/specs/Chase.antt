-- How often a letter is forwarded, and what waits on a shelf. Source: the Charm++ manual, where a message that reaches a
-- PE which its element has left is forwarded; how often that may happen is this project's claim.
use Rattle.std.specs.Prelude.{◌≡◌, ℕ, ◌≤◌, List, ◌∷◌, ◌++◌, Contains, Some, Bool, false, ◌==◌, slice_get}
use Rattle.chares.specs.declared.trace_entry.TraceEntry.{TraceEntry}
use Rattle.chares.specs.declared.trace_entry.TraceEntry.TheVariants as Trace
use Rattle.chares.specs.Letters.{LetterView}
use Rattle.pe_state.specs.Pes.{PeView}
use Rattle.rts_core.specs.Accounts.{times, is_number}
use Rattle.rts_core.specs.Worlds.{WorldView}
use Rattle.event_laws.specs.Bound.{IsBoundFor}

-- whether a trace entry says that the letter with this number was forwarded, and whether one says that this element
-- departed
abbrev pub is_forwarded : ℕ × ℕ → TraceEntry → Bool
is_forwarded id (Trace.Forwarded x) = is_number id x
is_forwarded id r = false

abbrev pub is_departed : ℕ → TraceEntry → Bool
is_departed e (Trace.Departed x) = x == e
is_departed e r = false

-- The chase of a world that was reached with a trace: a letter is forwarded at most as often as its element has departed
-- since the letter was posted, and where a letter waits on the shelf of a PE its element is on the way there.
pub record IsChase {C A : Type 0} (w : WorldView C A) (trace : List TraceEntry) : Type 0 where
  pub hops : (before after : List TraceEntry) (id : ℕ × ℕ) (e : ℕ) → trace ≡ before ++ Trace.Posted id e ∷ after → times (is_forwarded id) trace ≤ times (is_departed e) after
  pub shelved : (p : ℕ) (pe : PeView C) (l : LetterView) → slice_get w.pes p ≡ Some pe → Contains pe.shelf l → IsBoundFor w l.to p
