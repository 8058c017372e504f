-- The layout that the code keeps.
use Rattle.step_lists.specs.Layout.{Layout}
use Rattle.step_lists.specs.Laid.{all_slots}
use Rattle.step_lists.specs.declared.layout.Layout.TheInside.{Inside}

abbrev pub layout_by : Inside → Layout
layout_by l = record {
  registers = l.registers.items;
  slots = record {
    first = all_slots l.first.first l.made.first;
    second = all_slots l.first.second l.made.second;
    third = all_slots l.first.third l.made.third;
  };
  flags = l.flags;
}
