-- What is computed of the rules: the starred cases of the bench sheet, what they do instead of two shortcuts, the table of numbers, the
-- examples.
use mathlib.Core.Path.{refl}
use mathlib.Core.List.{flat_map}
use Rattle.rules.specs.Packing.{
  core_words,
  progress_words,
  next_link,
  head_link,
  batch_link,
  process_words,
  channel_words,
  header_words,
  pack,
  progress_numbered,
  view_core,
  view_process,
  view_channel,
  view,
}
use Rattle.rules.specs.Soundness.{on_cores, in_queues, valid_process, valid_core, valid_channel, valid, sound}
use Rattle.rules.specs.Calls.{call, set_up_call}
use Rattle.rules.specs.Touched.{touched}
use Rattle.rules.specs.Claims.{Computed}

pub computed : Computed
unfolding flat_map core_words progress_words next_link head_link batch_link process_words channel_words header_words pack progress_numbered view_core view_process view_channel view on_cores in_queues valid_process valid_core valid_channel valid sound call set_up_call touched
computed =
    record {
      numbers_table = record { answers = λ p c v. refl; refusals = refl };
      reached_numbers = record { set_up = refl; send = refl; receive = refl; choose = refl; yield = refl; end = refl; step = refl };
      bench_sheet =
          record {
            case_1 = (refl, refl, refl);
            case_3 = refl;
            case_4 = (refl, refl, refl, refl);
            case_5 = refl;
            case_6 = (refl, refl, refl);
            case_7 = (refl, refl);
            case_8 = (refl, refl, refl);
            case_9 = (refl, refl, refl, refl);
            case_10 = refl;
            case_11 = (refl, refl);
            case_13 = (refl, refl, refl);
          };
      shortcuts = record { still_asleep = (refl, refl); both_guards = refl };
      examples =
          record {
            of_exchange = refl;
            of_enabling = refl;
            of_disabling = refl;
            of_tasks = refl;
            of_scheduling = refl;
            of_requests = refl;
            of_busy = refl;
            of_set_up = refl;
            without_core = refl;
            of_sizes = refl;
            of_numbers = refl;
            of_progress = refl;
            of_places = refl;
            table_by_hand = refl;
            table_of_every_kind = refl;
          };
    }
