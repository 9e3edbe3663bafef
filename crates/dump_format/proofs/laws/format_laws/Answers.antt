use Rattle.dump_format.proofs.OneText as texts
use Rattle.dump_format.proofs.OnlyFaults as faults
use Rattle.dump_format.proofs.laws.format_laws.Goals as goal

pub returns : goal.returns
returns g c =
    record {
      one_dump = texts.one_dump;
      one_lbd1 = texts.one_lbd1;
      one_lbd2 = texts.one_lbd2;
      whole = texts.whole;
      no_fault = texts.no_fault;
      one_fault = texts.one_fault;
      good = texts.good;
      text_fault = faults.only_text_faults;
      stays = texts.stays;
    }
