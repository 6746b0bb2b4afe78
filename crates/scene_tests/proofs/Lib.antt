mod ZoneBoxes
