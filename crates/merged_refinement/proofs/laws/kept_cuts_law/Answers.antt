use Rattle.merged_refinement.proofs.KeptCuts.{kept_fewest, kept_nearest}
use Rattle.merged_refinement.proofs.Reaches.{places_keep}
use Rattle.merged_refinement.proofs.laws.kept_cuts_law.Goals as goal

pub returns : goal.returns
returns c =
    record {
      fewest = λ loads bytes present runs run_bytes starts standing ranks limit cuts h one. kept_fewest loads bytes present runs run_bytes starts standing ranks limit cuts h one;
      nearest = λ loads bytes present runs run_bytes starts standing ranks limit cuts h one. kept_nearest loads bytes present runs run_bytes starts standing ranks limit cuts h one;
      places = λ loads starts near far first last ranks limit reaches kept. places_keep loads starts near far first last ranks limit reaches kept;
    }
