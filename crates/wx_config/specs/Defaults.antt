-- The default settings.
use Rattle.std.specs.Prelude.{ℕ, true, false, []}
use Rattle.wx_config.specs.declared.config.Config.{Config}
use Rattle.wx_control.specs.Flags.{Flag}
use Rattle.wx_watch.specs.declared.watched.Watcher.TheVariants.{Native}

abbrev pub default_throttle : ℕ
default_throttle = 50_000_000

abbrev pub default_error_size : ℕ
default_error_size = 64

abbrev pub default_event_size : ℕ
default_event_size = 4096

-- with this flag, which is each time another one
abbrev pub default_config : Flag → Config
default_config ready = record {
  change_signal = 0;
  action_handler = 0;
  error_handler = 0;
  pathset = [];
  file_watcher = Native;
  follow_symlinks = true;
  signal_job_control = false;
  keyboard_events = false;
  throttle = default_throttle;
  filterer = 0;
  error_channel_size = default_error_size;
  event_channel_size = default_event_size;
  fs_ready = ready;
}
