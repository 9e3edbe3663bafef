use Rattle.merged_chains.proofs.MergedPeaks.{merged_chosen, windows_keep}
use Rattle.merged_chains.proofs.laws.merged_law.Goals as goal

pub returns : goal.returns
returns g c =
    record {
      same = λ xs ys starts p low high d h chosen. merged_chosen xs ys starts p low high h.bounds.0 d h.runs_weigh h.bounds.1 h.bounds.2 h.bounds.3 h.ends chosen;
      windows = λ xs starts p low high w. windows_keep xs starts p low high w;
    }
