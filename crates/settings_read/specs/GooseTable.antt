-- The table `goose` of a line: what it publishes.
use Rattle.std.specs.Prelude.{codes, List, [], ◌∷◌, ℕ, Ok}
use Rattle.relay_settings.specs.Settings.{PlainGoose}
use Rattle.settings_read.specs.Octets.{octets_of_word}
use Rattle.settings_read.specs.Walk.{Answer, ◌>>=◌, Place, only, required, optional, count, text, word}

abbrev pub goose_keys : List (List ℕ)
goose_keys = codes "dst" ∷ codes "src" ∷ codes "appid" ∷ codes "vlan_priority" ∷ codes "vlan_id" ∷ codes "gocb_ref" ∷ codes "dat_set" ∷ codes "go_id" ∷ codes "conf_rev" ∷ []

unfoldable pub goose_at : Place → Answer PlainGoose
goose_at here = do
  _ ← only here goose_keys
  dst ← word 17 octets_of_word here (codes "dst")
  src ← word 17 octets_of_word here (codes "src")
  appid ← required (count 0 65535) here (codes "appid")
  vlan_priority ← optional (count 0 7) 4 here (codes "vlan_priority")
  vlan_id ← optional (count 0 4095) 0 here (codes "vlan_id")
  gocb_ref ← required (text 0x20 129) here (codes "gocb_ref")
  dat_set ← required (text 0x20 129) here (codes "dat_set")
  go_id ← required (text 0x20 129) here (codes "go_id")
  conf_rev ← required (count 0 4294967295) here (codes "conf_rev")
  Ok (record { dst = dst; src = src; appid = appid; vlan_priority = vlan_priority; vlan_id = vlan_id; gocb_ref = gocb_ref; dat_set = dat_set; go_id = go_id; conf_rev = conf_rev })
